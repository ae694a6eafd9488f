pub use Rattle.bc_library.proofs as bc_library_lemmas
pub use Rattle.mpy_reader.proofs as mpy_reader_lemmas
pub use Rattle.mpy_reader.proofs.mpy_tree_lemmas
pub mod BaseNames
pub mod BaseTexts
pub mod Fine
pub mod Inversion
pub mod Steps
pub mod Times
