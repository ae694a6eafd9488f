pub mod Plain
pub mod Paths
pub mod Finds
