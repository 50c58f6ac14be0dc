pub mod Joins
pub mod Powers
pub mod Spans
pub mod Kept
