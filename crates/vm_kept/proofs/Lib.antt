pub mod Plain
pub mod Methods
pub mod Causes
pub mod Endings
pub mod Steps
pub mod Raises
pub mod Gives
