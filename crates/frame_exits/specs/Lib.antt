pub use Rattle.bc_library.specs as bc_library
pub use Rattle.bc_library.specs.bc_shapes
pub use Rattle.frame_moves.specs.arena_heap
pub use Rattle.frame_moves.specs.arena_objects
pub use Rattle.frame_moves.specs.bc_labels
pub use Rattle.frame_moves.specs.bc_prelude
pub use Rattle.frame_moves.specs.prim_faults
pub use Rattle.frame_moves.specs.vm_frames
pub use Rattle.mpy_base.specs as mpy_base
pub use Rattle.prim_modules.specs as prim_modules
pub use Rattle.prim_modules.specs.prim_assignments
pub mod Beginning
pub mod Causes
pub mod Ends
pub mod Importing
pub mod Known
pub mod Left
pub mod Names
pub mod Thrown
