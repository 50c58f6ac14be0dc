pub mod Extents
pub mod Shows
pub mod Charged
