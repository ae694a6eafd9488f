pub mod Bodies
mod Examples
pub mod Heads
pub mod Numbers
pub mod Once
pub mod Paths
pub mod Pens
pub mod Pieces
pub mod Putting
pub mod Ends
pub mod Trees
pub mod Tuples
pub mod Plain
