pub mod Turns
pub mod Splits
mod Examples
