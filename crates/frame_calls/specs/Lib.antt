pub use Rattle.frame_moves.specs.arena_heap
pub use Rattle.frame_moves.specs.arena_objects
pub use Rattle.frame_moves.specs.bc_labels
pub use Rattle.frame_moves.specs.bc_machine
pub use Rattle.frame_moves.specs.prim_faults
pub use Rattle.frame_moves.specs.prim_walks
pub use Rattle.prim_calls.specs as prim_calls
pub use Rattle.prim_calls.specs.prim_outputs
pub use Rattle.prim_modules.specs as prim_modules
pub mod Binding
pub mod Built
pub mod Children
pub mod Coming
pub mod Entering
pub mod Held
pub mod Invoking
pub mod Known
pub mod Layouts
pub mod Operands
pub mod Putting
