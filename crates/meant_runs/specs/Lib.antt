pub use Rattle.bc_machine.specs as bc_machine
pub use Rattle.bc_machine.specs.py_effects
pub use Rattle.bc_machine.specs.py_values
pub use Rattle.library_runs.specs.mpy_base
pub use Rattle.library_runs.specs.mpy_io
pub use Rattle.library_runs.specs.port_set
pub use Rattle.library_runs.specs.prim_outputs
pub use Rattle.library_runs.specs.vm_frames
pub use Rattle.library_runs.specs.vm_starting
pub use Rattle.library_runs.specs.vm_states
pub use Rattle.py_meaning.specs as py_meaning
pub use Rattle.py_meaning.specs.py_scopes
pub use Rattle.trans_laws.specs as trans_laws
pub mod Meant
pub mod Runs
pub mod Units
