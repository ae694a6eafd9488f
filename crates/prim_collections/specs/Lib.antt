pub mod Best
pub mod Collected
