pub mod Integers
pub mod Law
pub mod Lists
pub mod Offsets
pub mod Parts
pub mod Reading
pub mod Table
