pub use Rattle.prim_faults.specs as prim_faults
pub use Rattle.prim_faults.specs.arena_heap
pub use Rattle.prim_faults.specs.arena_objects
pub use Rattle.prim_faults.specs.mpy_base
pub use Rattle.prim_faults.specs.prim_walks
pub use Rattle.prim_faults.specs.py_primitives
pub use Rattle.prim_faults.specs.py_values
pub use Rattle.prim_faults.specs.qstr_pool
pub mod Attributes
pub mod Changeless
pub mod Containers
pub mod Operands
pub mod Operators
pub mod Pairs
pub mod Sources
