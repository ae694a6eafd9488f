pub use Rattle.prim_methods.proofs.prim_assignments_lemmas
pub use Rattle.prim_raising.proofs.prim_types_lemmas
pub mod Namespaces
pub mod Stores
pub mod StaticNames
