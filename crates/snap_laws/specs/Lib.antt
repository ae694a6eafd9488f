pub mod Filled
pub mod Jumps
pub mod Kept
pub mod Outcomes
pub mod Renamed
pub mod States
pub mod Worlds
