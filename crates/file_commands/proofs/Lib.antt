pub use Rattle.mpy_merge.proofs as mpy_merge_lemmas
pub mod Checked
mod CheckedAs
pub mod Crossed
pub mod Merged
pub mod HandedOn
mod Crossings
pub mod Freezing
pub mod Migrating
