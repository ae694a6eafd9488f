pub use Rattle.prim_faults.specs as prim_faults
pub use Rattle.prim_modules.specs as prim_modules
pub use Rattle.state_calls.specs.bc_prelude
pub use Rattle.state_calls.specs.bc_progress
pub use Rattle.state_calls.specs.prim_walks
pub use Rattle.vm_frames.specs as vm_frames
pub mod Calling
pub mod Comes
pub mod Values
