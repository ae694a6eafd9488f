pub mod Parts
pub mod Grows
pub mod Read
pub mod Counted
pub mod Once
