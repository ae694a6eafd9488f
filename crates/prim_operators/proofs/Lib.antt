pub use Rattle.prim_faults.proofs as prim_faults_lemmas
pub use Rattle.prim_faults.proofs.arena_heap_lemmas
pub use Rattle.prim_faults.proofs.arena_objects_lemmas
pub use Rattle.prim_faults.proofs.mpy_base_lemmas
pub use Rattle.prim_faults.proofs.prim_walks_lemmas
pub use Rattle.prim_faults.proofs.py_values_lemmas
pub mod AttributeUses
pub mod DictKeys
pub mod IndexUses
pub mod ItemFills
pub mod ItemsShown
pub mod KeyUses
pub mod Looked
pub mod Pairings
pub mod Removals
pub mod Repeats
pub mod Shaped
pub mod TextFills
