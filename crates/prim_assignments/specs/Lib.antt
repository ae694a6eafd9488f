pub use Rattle.prim_operators.specs as prim_operators
pub use Rattle.prim_operators.specs.arena_heap
pub use Rattle.prim_operators.specs.arena_objects
pub use Rattle.prim_operators.specs.prim_faults
pub use Rattle.prim_operators.specs.prim_walks
pub mod Slots
