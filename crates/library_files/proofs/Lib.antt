pub mod Walks
pub mod Fronts
pub mod Read
pub mod Found
pub mod Once
pub mod Short
pub mod Plain
pub mod Taken
pub mod Absent
pub mod Asks
pub mod Whole
mod Examples
