pub use Rattle.emit_measures.specs as emit_measures
pub use Rattle.emit_measures.specs.bc_scheme
pub use Rattle.emit_stmt.specs as emit_stmt
pub use Rattle.emit_stmt.specs.emit_draft
pub use Rattle.emit_stmt.specs.emit_expr
pub use Rattle.mpy_writer.specs.bc_labels
pub use Rattle.py_tree.specs as py_tree
pub use Rattle.tr_source.specs as tr_source
pub use Rattle.tr_source.specs.bc_flow
pub use Rattle.tr_source.specs.bc_machine
pub use Rattle.tr_source.specs.bc_resolved
pub use Rattle.tr_source.specs.py_meaning
pub use Rattle.tr_source.specs.py_source
pub mod Counted
pub mod First
pub mod Found
pub mod Joined
pub mod Module
pub mod Own
pub mod Walk
