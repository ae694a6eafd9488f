pub mod Chain
pub mod Cursor
pub mod Lines
pub mod Names
pub mod Prelude
pub mod Signature
pub mod Size
