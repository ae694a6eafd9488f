pub use Rattle.bc_flow.specs as bc_flow
pub use Rattle.bc_flow.specs.bc_shapes
pub use Rattle.bc_machine.specs as bc_machine
pub use Rattle.bc_machine.specs.bc_ops
pub use Rattle.bc_machine.specs.mpy_base
pub use Rattle.bc_machine.specs.py_effects
pub use Rattle.bc_machine.specs.py_primitives
pub use Rattle.bc_machine.specs.py_values
pub mod Slots
pub mod Plans
pub mod Fits
pub mod Known
