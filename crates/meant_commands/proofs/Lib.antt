pub use Rattle.file_commands.proofs as file_commands_lemmas
pub use Rattle.run_commands.proofs as run_commands_lemmas
pub mod GoMeaning
pub mod ImageMeaning
pub mod Making
pub mod Meaning
pub mod ResumeMeaning
pub mod Running
pub mod Sources
