pub use Rattle.prim_operators.proofs as prim_operators_lemmas
pub use Rattle.prim_operators.proofs.arena_heap_lemmas
pub use Rattle.prim_operators.proofs.arena_objects_lemmas
pub use Rattle.prim_operators.proofs.mpy_base_lemmas
pub use Rattle.prim_operators.proofs.prim_faults_lemmas
pub use Rattle.prim_operators.proofs.prim_walks_lemmas
pub use Rattle.prim_operators.proofs.py_values_lemmas
pub mod BoundsLeading
pub mod Calls
pub mod Numbered
pub mod SmallCounts
pub mod SmallSame
