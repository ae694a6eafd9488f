pub use Rattle.mpy_base.proofs as mpy_base_lemmas
mod ValueExamples
pub mod KeyPairs
pub mod Powers
pub mod Quotients
pub mod Range
pub mod Shifted
pub mod TwosComplement
