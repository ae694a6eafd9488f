pub mod Counting
pub mod Listed
pub mod OneCall
pub mod ToldCall
