pub use Rattle.bc_resolved.specs as bc_resolved
pub use Rattle.bc_resolved.specs.bc_flow
pub use Rattle.bc_resolved.specs.bc_machine
pub use Rattle.bc_resolved.specs.bc_ops
pub use Rattle.bc_resolved.specs.mpy_base
pub use Rattle.emit_measures.specs.bc_scheme
pub use Rattle.py_meaning.specs as py_meaning
pub use Rattle.py_meaning.specs.py_tree
pub use Rattle.py_source.specs as py_source
pub mod Accepted
pub mod Greatest
pub mod Limits
pub mod Names
pub mod Nested
pub mod Numbered
pub mod Spelled
pub mod Texts
pub mod Units
pub mod Widest
pub mod Within
