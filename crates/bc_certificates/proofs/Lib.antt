pub use Rattle.bc_flow.proofs as bc_flow_lemmas
pub mod Carrying
pub mod Chains
pub mod Checks
pub mod Ends
pub mod Plain
