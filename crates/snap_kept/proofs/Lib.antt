mod Acting
mod Binding
mod Calling
mod Changes
mod FileConstants
mod Framing
mod Lists
mod Making
mod Marking
mod Moduling
mod Moving
pub mod Onward
mod Operating
mod Running
mod Stepping
mod Using
