pub mod Counts
pub mod Singles
pub mod Shows
pub mod Charged
