pub use Rattle.arena_objects.specs as arena_objects
pub use Rattle.arena_objects.specs.arena_heap
pub use Rattle.arena_objects.specs.qstr_pool
pub use Rattle.py_primitives.specs as py_primitives
pub use Rattle.py_primitives.specs.mpy_base
pub use Rattle.py_primitives.specs.py_values
pub mod Leaves
pub mod Looks
pub mod Meetings
pub mod Numbers
pub mod Ones
pub mod Orders
pub mod Pens
pub mod Plain
pub mod Runs
pub mod Whole
