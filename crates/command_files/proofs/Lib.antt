pub use Rattle.mpy_endings.proofs as mpy_endings_lemmas
pub use Rattle.mpy_endings.proofs.mpy_writer_lemmas
pub mod Long
pub mod Others
pub mod Verifying
