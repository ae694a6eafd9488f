pub use Rattle.bc_library.proofs as bc_library_lemmas
pub use Rattle.frame_moves.proofs.bc_labels_lemmas
pub use Rattle.frame_moves.proofs.mpy_tree_lemmas
pub use Rattle.prim_modules.proofs.prim_assignments_lemmas
pub mod Begins
pub mod Changes
pub mod Coming
pub mod Fails
pub mod Finishes
pub mod Fronts
pub mod Keeping
pub mod Leaves
pub mod Machine
pub mod Plains
pub mod Tabling
pub mod Throws
