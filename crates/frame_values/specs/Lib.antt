pub use Rattle.frame_moves.specs.prim_raising
pub use Rattle.prim_names.specs as prim_names
pub mod Effects
pub mod Operations
pub mod Settled
pub mod Slots
