pub use Rattle.mpy_base.proofs as mpy_base_lemmas
pub use Rattle.prim_types.proofs as prim_types_lemmas
pub use Rattle.prim_types.proofs.prim_faults_lemmas
pub mod Arguments
pub mod Effects
pub mod Failures
pub mod FaultTexts
