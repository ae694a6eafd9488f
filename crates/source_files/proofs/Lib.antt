pub use Rattle.library_files.proofs as library_files_lemmas
pub mod Names
pub mod Compiled
pub mod Given
mod Examples
