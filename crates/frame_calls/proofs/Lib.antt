pub use Rattle.frame_moves.proofs.bc_labels_lemmas
pub use Rattle.frame_moves.proofs.prim_walks_lemmas
pub use Rattle.prim_calls.proofs as prim_calls_lemmas
pub use Rattle.prim_calls.proofs.prim_outputs_lemmas
pub mod Answering
pub mod Builtins
pub mod BuiltActs
pub mod Changes
pub mod Coming
pub mod Enterings
pub mod Invokings
pub mod Knowns
pub mod Makings
pub mod PlainOperands
pub mod Runs
pub mod Skips
pub mod Slots
pub mod Tuples
