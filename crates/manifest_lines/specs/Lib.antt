pub mod Ahead
pub mod Literals
pub mod Calls
pub mod Forms
pub mod Entries
pub mod Orders
pub mod Lines
