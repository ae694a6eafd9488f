pub use Rattle.mpy_base.proofs as mpy_base_lemmas
pub mod Asked
pub mod InPlace
pub mod Joins
pub mod Loops
pub mod Order
pub mod Spans
