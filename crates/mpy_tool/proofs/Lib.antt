pub mod Ended
pub mod Under
mod Flushing
pub mod Handing
pub mod Alone
pub mod Stressing
pub mod Acting
pub mod Counting
pub mod Saving
