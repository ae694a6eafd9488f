pub use Rattle.prim_operators.specs as prim_operators
pub use Rattle.prim_operators.specs.arena_heap
pub use Rattle.prim_operators.specs.arena_objects
pub use Rattle.prim_operators.specs.mpy_base
pub use Rattle.prim_operators.specs.prim_faults
pub use Rattle.prim_operators.specs.prim_walks
pub use Rattle.prim_operators.specs.py_primitives
pub use Rattle.prim_operators.specs.py_values
pub use Rattle.prim_operators.specs.qstr_pool
pub mod Arguments
pub mod Bounds
pub mod Numbers
