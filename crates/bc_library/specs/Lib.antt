pub use Rattle.bc_verify.specs as bc_verify
pub use Rattle.bc_verify.specs.bc_flow
pub use Rattle.bc_verify.specs.bc_shapes
pub use Rattle.mpy_tree.specs as mpy_tree
pub mod Added
pub mod Constants
pub mod Fine
pub mod Greatest
pub mod Kept
pub mod Own
pub mod Parts
pub mod Shelf
pub mod Texts
pub mod Told
