pub use Rattle.frame_calls.specs as frame_calls
pub use Rattle.frame_calls.specs.arena_heap
pub use Rattle.frame_calls.specs.bc_labels
pub use Rattle.frame_calls.specs.bc_machine
pub use Rattle.frame_calls.specs.prim_calls
pub use Rattle.frame_calls.specs.prim_faults
pub use Rattle.frame_calls.specs.prim_modules
pub use Rattle.frame_calls.specs.prim_outputs
pub use Rattle.frame_calls.specs.prim_walks
pub use Rattle.vm_frames.specs.bc_prelude
pub use Rattle.vm_states.specs as vm_states
pub use Rattle.vm_states.specs.bc_progress
pub use Rattle.vm_states.specs.bc_rows
pub use Rattle.vm_states.specs.frame_exits
pub use Rattle.vm_states.specs.frame_moves
pub use Rattle.vm_states.specs.frame_values
pub use Rattle.vm_states.specs.mpy_base
pub use Rattle.vm_states.specs.prim_raising
pub use Rattle.vm_states.specs.vm_fetching
pub use Rattle.vm_states.specs.vm_frames
pub mod Called
pub mod Children
pub mod Codes
pub mod Names
pub mod Runs
pub mod Taken
