pub mod Soils
pub mod Sets
pub mod Unions
