pub use Rattle.prim_assignments.proofs as prim_assignments_lemmas
pub use Rattle.prim_assignments.proofs.arena_heap_lemmas
pub use Rattle.prim_assignments.proofs.prim_faults_lemmas
pub use Rattle.prim_assignments.proofs.prim_operators_lemmas
pub use Rattle.prim_assignments.proofs.prim_walks_lemmas
pub mod DictHalves
pub mod DictValues
pub mod ItemPops
pub mod ListFills
pub mod ListPuts
pub mod MethodCalls
pub mod PairMakings
pub mod Stopped
pub mod Visits
