pub use Rattle.bc_library.specs as bc_library
pub use Rattle.mpy_base.specs as mpy_base
pub use Rattle.mpy_io.specs as mpy_io
pub use Rattle.port_set.specs as port_set
pub use Rattle.prim_outputs.specs as prim_outputs
pub use Rattle.vm_machine.specs as vm_machine
pub use Rattle.vm_machine.specs.vm_frames
pub use Rattle.vm_machine.specs.vm_starting
pub use Rattle.vm_machine.specs.vm_states
pub mod Runs
pub mod Reports
