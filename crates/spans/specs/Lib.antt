pub mod Joinings
pub mod Rows
pub mod Tables
