pub mod Formed
pub mod Statements
pub mod Lines
pub mod Climbs
pub mod Defs
mod FormedExamples
