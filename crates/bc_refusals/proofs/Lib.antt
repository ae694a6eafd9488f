pub use Rattle.bc_certificates.proofs as bc_certificates_lemmas
pub use Rattle.bc_flow.proofs as bc_flow_lemmas
pub mod Opened
pub mod Stages
pub mod Faults
pub mod Runs
pub mod Starts
pub mod Steps
