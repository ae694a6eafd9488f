pub use Rattle.bc_progress.proofs as bc_progress_lemmas
pub use Rattle.bc_progress.proofs.bc_ops_lemmas
pub use Rattle.frame_exits.proofs as frame_exits_lemmas
pub use Rattle.frame_exits.proofs.bc_labels_lemmas
pub use Rattle.frame_exits.proofs.bc_library_lemmas
pub use Rattle.frame_exits.proofs.mpy_tree_lemmas
pub use Rattle.frame_exits.proofs.prim_assignments_lemmas
pub use Rattle.frame_values.proofs as frame_values_lemmas
pub use Rattle.frame_values.proofs.prim_comparisons_lemmas
pub use Rattle.vm_fetching.proofs.bc_rows_lemmas
pub use Rattle.vm_fetching.proofs.frame_moves_lemmas
mod Back
mod Bounds
mod Flow
mod Items
mod Knowing
mod Onward
mod Onwards
mod Readying
mod Tops
