pub mod Chains
pub mod Counts
mod Cursors
pub mod Entries
pub mod Indexes
pub mod Pieces
pub mod Preludes
pub mod Signatures
pub mod Sizes
mod Tables
pub mod Written
