pub use Rattle.emit_measures.specs.py_scopes
pub use Rattle.emit_module.specs as emit_module
pub use Rattle.emit_module.specs.bc_scheme
pub use Rattle.emit_module.specs.py_source
pub use Rattle.emit_module.specs.py_tree
pub use Rattle.emit_module.specs.tr_source
pub mod Checked
pub mod Compiled
pub mod Made
pub mod Texts
