pub use Rattle.bc_flow.proofs as bc_flow_lemmas
pub use Rattle.bc_flow.proofs.bc_shapes_lemmas
pub use Rattle.bc_machine.proofs.bc_ops_lemmas
pub mod Flowing
pub mod Showing
pub mod Knowing
pub mod Moves
pub mod Items
pub mod Frames
pub mod Binding
pub mod Operators
pub mod Steps
pub mod Instructions
pub mod Plains
pub mod Whole
pub mod Others
