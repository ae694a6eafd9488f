pub mod Ends
pub mod Series
pub mod Named
pub mod Starts
pub mod Assigned
pub mod Smalls
pub mod Whole
pub mod Formed
mod LineExamples
pub mod Rows
