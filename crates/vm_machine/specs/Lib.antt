pub use Rattle.state_steps.specs.prim_walks
pub use Rattle.state_steps.specs.vm_frames
pub use Rattle.vm_kept.specs.state_calls
pub use Rattle.vm_starting.specs as vm_starting
pub use Rattle.vm_starting.specs.vm_states
pub mod Acting
pub mod Due
pub mod Machine
pub mod Running
