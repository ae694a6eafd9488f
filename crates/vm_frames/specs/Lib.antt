pub use Rattle.bc_labels.specs as bc_labels
pub use Rattle.bc_machine.specs as bc_machine
pub use Rattle.bc_machine.specs.bc_ops
pub use Rattle.bc_machine.specs.bc_prelude
pub use Rattle.bc_machine.specs.py_effects
pub mod Calls
pub mod Framed
pub mod Held
pub mod Moves
pub mod Placed
pub mod Stacked
pub mod Views
