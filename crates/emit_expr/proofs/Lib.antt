pub use Rattle.emit_draft.proofs as emit_draft_lemmas
pub mod Plains
pub mod Links
pub mod Counts
pub mod Forms
pub mod Rows
