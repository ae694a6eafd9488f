pub use Rattle.bc_progress.specs as bc_progress
pub use Rattle.bc_progress.specs.bc_flow
pub use Rattle.bc_progress.specs.bc_machine
pub use Rattle.bc_progress.specs.bc_ops
pub use Rattle.bc_progress.specs.mpy_base
pub use Rattle.bc_progress.specs.py_effects
pub use Rattle.bc_progress.specs.py_primitives
pub use Rattle.bc_progress.specs.py_values
pub mod Effects
pub mod Files
pub mod Frames
pub mod Texts
pub mod Values
