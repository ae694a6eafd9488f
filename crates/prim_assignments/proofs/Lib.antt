pub use Rattle.prim_operators.proofs as prim_operators_lemmas
pub use Rattle.prim_operators.proofs.arena_heap_lemmas
pub use Rattle.prim_operators.proofs.arena_objects_lemmas
pub use Rattle.prim_operators.proofs.prim_faults_lemmas
pub use Rattle.prim_operators.proofs.prim_walks_lemmas
pub mod Growths
pub mod InPlace
pub mod ItemUses
pub mod Iterated
pub mod Letters
pub mod PutPairs
pub mod TakenItems
pub mod Unpacked
