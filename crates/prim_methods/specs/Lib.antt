pub use Rattle.prim_assignments.specs as prim_assignments
pub use Rattle.prim_assignments.specs.arena_heap
pub use Rattle.prim_assignments.specs.arena_objects
pub use Rattle.prim_assignments.specs.prim_faults
pub use Rattle.prim_assignments.specs.prim_operators
pub use Rattle.prim_assignments.specs.prim_walks
pub mod Halves
pub mod PairTuples
