pub use Rattle.bc_rows.proofs as bc_rows_lemmas
pub use Rattle.frame_moves.proofs as frame_moves_lemmas
mod Constants
mod Kept
mod Operating
mod Reading
mod Showing
mod Stepping
mod Tables
mod Texts
