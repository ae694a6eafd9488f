pub mod Canonical
pub mod Names
pub mod Sound
