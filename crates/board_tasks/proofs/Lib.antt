pub mod Alone
pub mod Turned
pub mod Found
pub mod Starting
pub mod Stopped
pub mod Boards
