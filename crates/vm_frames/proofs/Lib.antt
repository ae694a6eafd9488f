pub use Rattle.bc_labels.proofs as bc_labels_lemmas
pub use Rattle.bc_machine.proofs.bc_ops_lemmas
pub use Rattle.bc_machine.proofs.mpy_tree_lemmas
mod Begins
mod Cuts
mod Heights
mod Lists
mod Passing
mod Stack
mod Stays
mod Walks
