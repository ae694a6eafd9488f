pub use Rattle.bc_machine.specs.py_effects
pub use Rattle.vm_machine.specs.vm_starting
pub mod Ends
pub mod Alone
pub mod Opened
pub mod Turns
pub mod Schedules
