pub mod Refusals
pub mod Rules
pub mod Told
pub mod Levels
