pub use Rattle.emit_expr.specs as emit_expr
pub use Rattle.emit_expr.specs.emit_draft
pub mod Children
pub mod Crowded
pub mod Emits
pub mod Parts
pub mod Plain
pub mod SimpleCrowded
pub mod SimpleEmits
pub mod Steps
pub mod Text
