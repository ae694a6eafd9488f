pub mod Names
pub mod Comparing
