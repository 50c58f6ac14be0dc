pub mod Fixed
pub mod Sums
