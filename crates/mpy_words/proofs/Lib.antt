pub mod Numbers
pub mod Steps
mod Examples
