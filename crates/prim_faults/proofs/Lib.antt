pub use Rattle.prim_walks.proofs as prim_walks_lemmas
pub use Rattle.prim_walks.proofs.arena_heap_lemmas
pub use Rattle.prim_walks.proofs.arena_objects_lemmas
pub use Rattle.prim_walks.proofs.mpy_base_lemmas
pub use Rattle.prim_walks.proofs.py_values_lemmas
pub mod Heaps
mod Keyless
pub mod Outcomes
pub mod TypeNames
pub mod Wordings
