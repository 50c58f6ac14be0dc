pub mod Medians
pub mod Ranks
pub mod Walks
