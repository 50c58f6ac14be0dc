pub mod Rising
pub mod Middles
pub mod Ranking
pub mod Shows
pub mod Walking
pub mod Charged
