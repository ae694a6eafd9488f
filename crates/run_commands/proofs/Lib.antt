pub use Rattle.command_files.proofs.mpy_endings_lemmas
pub mod Bases
pub mod Running
pub mod Going
pub mod Suspending
pub mod Resumption
pub mod Resting
mod Leaving
mod Naming
mod Starting
mod Examples
pub mod Front
pub mod Made
pub mod Puts
