pub use Rattle.bc_library.proofs as bc_library_lemmas
pub use Rattle.bc_library.proofs.bc_verify_lemmas
pub use Rattle.bc_machine.proofs.mpy_tree_lemmas
mod Indexes
mod Locals
mod Numbering
pub mod Preludes
mod Runs
mod Tables
