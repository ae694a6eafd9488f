pub use Rattle.tr_source.proofs as tr_source_lemmas
pub mod Coding
pub mod Few
pub mod Fewer
pub mod Finding
pub mod Forests
pub mod Joining
pub mod Judging
pub mod Limiting
pub mod Measuring
pub mod Moduling
pub mod Plants
pub mod Sizes
pub mod Standing
pub mod Trees
pub mod Walking
pub mod Shallow
