pub use Rattle.prim_assignments.proofs as prim_assignments_lemmas
pub mod Effecting
pub mod Fronts
pub mod Modular
pub mod Titles
