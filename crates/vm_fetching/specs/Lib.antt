pub use Rattle.bc_rows.specs as bc_rows
pub use Rattle.bc_rows.specs.bc_verify
pub use Rattle.bc_rows.specs.mpy_tree
pub use Rattle.frame_moves.specs as frame_moves
pub mod Families
pub mod Fetches
pub mod Instructions
pub mod Numbered
pub mod Operations
pub mod Shows
