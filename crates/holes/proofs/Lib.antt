pub mod Cuts
pub mod Shows
