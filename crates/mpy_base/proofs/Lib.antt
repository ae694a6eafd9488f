pub mod Groups
pub mod KindTree
pub mod Rooms
pub mod Worlds
