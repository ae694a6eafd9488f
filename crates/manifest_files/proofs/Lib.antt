mod Examples
pub mod Goes
pub mod Names
pub mod Passing
mod Plain
pub mod Quiet
pub mod FailedReads
pub mod Said
pub mod Tells
