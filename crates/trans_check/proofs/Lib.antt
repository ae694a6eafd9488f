pub mod Items
pub mod Lists
pub mod Objects
pub mod Parts
pub mod Places
pub mod Reading
mod Stored
pub mod Trees
pub mod Whole
