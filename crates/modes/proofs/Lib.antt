pub mod Shows
pub mod Counting
