pub use Rattle.bc_progress.specs as bc_progress
pub use Rattle.bc_progress.specs.bc_flow
pub use Rattle.bc_progress.specs.bc_machine
pub use Rattle.bc_progress.specs.bc_ops
pub use Rattle.bc_progress.specs.bc_shapes
pub use Rattle.bc_progress.specs.mpy_base
pub use Rattle.bc_verify.specs as bc_verify
pub mod Known
pub mod Operands
pub mod Rooms
pub mod Stored
pub mod Verified
