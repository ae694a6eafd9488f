pub use Rattle.bc_progress.specs as bc_progress
pub use Rattle.bc_progress.specs.bc_machine
pub use Rattle.bc_progress.specs.bc_ops
pub use Rattle.frame_exits.specs as frame_exits
pub use Rattle.frame_exits.specs.bc_labels
pub use Rattle.frame_exits.specs.bc_library
pub use Rattle.frame_exits.specs.mpy_base
pub use Rattle.frame_exits.specs.prim_assignments
pub use Rattle.frame_exits.specs.prim_modules
pub use Rattle.frame_exits.specs.vm_frames
pub use Rattle.frame_values.specs as frame_values
pub use Rattle.frame_values.specs.prim_names
pub use Rattle.frame_values.specs.prim_raising
pub use Rattle.vm_fetching.specs as vm_fetching
pub use Rattle.vm_fetching.specs.bc_rows
pub use Rattle.vm_fetching.specs.frame_moves
pub use Rattle.vm_fetching.specs.mpy_tree
pub mod Acting
pub mod Finds
pub mod Locals
pub mod Means
pub mod OnTop
pub mod Ready
pub mod Running
pub mod State
pub mod Topmost
pub mod Tops
