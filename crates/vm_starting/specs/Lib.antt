pub use Rattle.frame_calls.specs as frame_calls
pub use Rattle.frame_calls.specs.prim_outputs
pub use Rattle.vm_states.specs as vm_states
pub use Rattle.vm_states.specs.bc_library
pub mod Codes
pub mod Kept
pub mod Opened
pub mod Programs
pub mod Starting
pub mod Titles
