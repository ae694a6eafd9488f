pub use Rattle.emit_draft.specs as emit_draft
pub use Rattle.emit_draft.specs.bc_machine
pub use Rattle.emit_draft.specs.bc_scheme
pub use Rattle.emit_draft.specs.py_meaning
pub mod Crowded
pub mod Emits
