pub use Rattle.bc_certificates.specs as bc_certificates
pub use Rattle.bc_flow.specs as bc_flow
pub mod Chains
pub mod Judgements
pub mod Stages
pub mod Views
pub mod Walks
