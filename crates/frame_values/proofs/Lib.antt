pub use Rattle.prim_comparisons.proofs as prim_comparisons_lemmas
pub mod Acting
pub mod Calls
pub mod Displaying
pub mod Emptying
pub mod Gathering
pub mod Items
pub mod Iterating
pub mod Looking
pub mod Operating
pub mod Pushing
pub mod Settling
pub mod Visits
