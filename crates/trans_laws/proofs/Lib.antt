pub mod Alike
mod Examples
pub mod Fitting
pub mod Flow
pub mod Itself
