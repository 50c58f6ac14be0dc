pub mod Numbers
pub mod Makings
pub mod Symbols
pub mod Tests
