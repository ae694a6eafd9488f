pub use Rattle.command_files.proofs as command_files_lemmas
pub mod Ending
pub mod Meaning
pub mod TaskMeaning
