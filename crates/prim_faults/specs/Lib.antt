pub use Rattle.prim_walks.specs as prim_walks
pub use Rattle.prim_walks.specs.arena_heap
pub use Rattle.prim_walks.specs.arena_objects
pub use Rattle.prim_walks.specs.mpy_base
pub use Rattle.prim_walks.specs.py_primitives
pub use Rattle.prim_walks.specs.py_values
pub use Rattle.prim_walks.specs.qstr_pool
pub mod Faults
pub mod Keys
pub mod Outcomes
pub mod Pieces
pub mod Sights
pub mod Types
