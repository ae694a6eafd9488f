pub use Rattle.mpy_base.proofs as mpy_base_lemmas
pub mod Places
pub mod Pools
pub mod Slots
