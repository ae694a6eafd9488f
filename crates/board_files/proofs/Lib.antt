pub mod Names
pub mod Others
pub mod Holding
pub mod Told
pub mod Loops
pub mod Stopping
