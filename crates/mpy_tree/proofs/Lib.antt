pub use Rattle.bc_ops.proofs as bc_ops_lemmas
pub use Rattle.bc_prelude.proofs as bc_prelude_lemmas
pub use Rattle.qstr_pool.proofs as qstr_pool_lemmas
pub use Rattle.qstr_pool.proofs.mpy_base_lemmas
pub mod Codes
mod Examples
pub mod Lines
pub mod Resolving
pub mod Values
