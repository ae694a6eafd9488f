pub use Rattle.bc_verify.proofs as bc_verify_lemmas
pub mod Counts
mod Examples
pub mod Files
pub mod Objectless
pub mod Own
pub mod Pools
pub mod Preludes
pub mod Preorders
pub mod Shelves
pub mod Told
