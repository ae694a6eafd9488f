mod Came
mod Checked
mod Crossed
mod Examples
mod Fitting
mod Follows
mod Holds
pub mod Libraries
mod Loaded
mod Made
pub mod Matched
mod Merged
mod One
pub mod Places
mod Quiet
mod SourcesHold
mod Statements
mod Trees
