pub mod Put
pub mod Saved
pub mod Shown
pub mod Steps
