pub mod Answered
pub mod Apart
mod Examples
pub mod Slashes
