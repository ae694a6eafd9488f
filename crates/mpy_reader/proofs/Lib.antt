pub use Rattle.mpy_tree.proofs as mpy_tree_lemmas
pub mod Bodies
pub mod Codes
pub mod Files
pub mod Found
pub mod FoundCodes
pub mod Listed
pub mod Many
pub mod Numerals
pub mod Objects
pub mod Single
pub mod Steps
pub mod Taken
pub mod TakenCodes
