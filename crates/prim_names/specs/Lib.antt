pub use Rattle.prim_methods.specs.arena_heap
pub use Rattle.prim_methods.specs.arena_objects
pub use Rattle.prim_methods.specs.prim_assignments
pub use Rattle.prim_methods.specs.prim_faults
pub use Rattle.prim_methods.specs.prim_walks
pub use Rattle.prim_raising.specs.prim_types
pub mod Looks
