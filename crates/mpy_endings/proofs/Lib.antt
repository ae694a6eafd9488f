pub use Rattle.mpy_merge.proofs.mpy_writer_lemmas
pub mod Said
pub mod Statuses
