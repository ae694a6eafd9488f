pub mod Importing
pub mod Keeping
pub mod Modules
pub mod Own
pub mod Running
pub mod Waiting
