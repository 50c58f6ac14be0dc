pub mod Lawful
pub mod Leveled
