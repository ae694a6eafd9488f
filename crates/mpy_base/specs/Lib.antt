pub mod Fault
pub mod Kind
pub mod Source
pub mod Val
pub mod Vuint
pub mod Weights
pub mod World
pub mod formers
