pub use Rattle.bc_shapes.specs as bc_shapes
pub use Rattle.bc_shapes.specs.mpy_base
pub mod Action
pub mod Code
pub mod Edges
pub mod Holes
pub mod Judged
pub mod Machine
pub mod Queue
pub mod Rules
pub mod Spans
pub mod Verified
pub mod Views
