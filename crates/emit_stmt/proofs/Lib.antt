pub use Rattle.emit_expr.proofs as emit_expr_lemmas
pub mod Children
pub mod DefForms
pub mod ImportForms
pub mod Keeps
pub mod Layers
pub mod Loops
pub mod Own
pub mod Plains
pub mod Rows
pub mod SimpleRows
pub mod StmtForms
pub mod StoreForms
pub mod Texts
pub mod Tries
pub mod Walks
