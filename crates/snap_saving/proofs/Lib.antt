pub mod Adding
mod Examples
pub mod Fitting
pub mod Leaves
pub mod Naming
pub mod OfObjects
pub mod Places
pub mod Slots
pub mod Whole
