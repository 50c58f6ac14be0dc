pub mod Holes
pub mod Laws
