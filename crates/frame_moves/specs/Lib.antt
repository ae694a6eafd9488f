pub use Rattle.prim_raising.specs as prim_raising
pub use Rattle.prim_raising.specs.mpy_base
pub use Rattle.prim_raising.specs.prim_faults
pub use Rattle.prim_raising.specs.prim_faults.arena_heap
pub use Rattle.prim_raising.specs.prim_faults.arena_objects
pub use Rattle.prim_raising.specs.prim_faults.prim_walks
pub use Rattle.prim_raising.specs.prim_faults.py_primitives
pub use Rattle.prim_raising.specs.prim_faults.py_values
pub use Rattle.vm_frames.specs as vm_frames
pub use Rattle.vm_frames.specs.bc_labels
pub use Rattle.vm_frames.specs.bc_machine
pub use Rattle.vm_frames.specs.bc_ops
pub use Rattle.vm_frames.specs.bc_prelude
pub use Rattle.vm_frames.specs.py_effects
pub mod Outcomes
pub mod Shown
pub mod Stacks
