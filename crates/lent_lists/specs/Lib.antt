pub mod Lists
pub mod Elements
