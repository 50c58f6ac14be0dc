pub mod LevelSets
pub mod Sets
