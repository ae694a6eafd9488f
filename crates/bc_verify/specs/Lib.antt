pub use Rattle.bc_refusals.specs.bc_flow
pub use Rattle.bc_flow.specs.bc_shapes
pub use Rattle.mpy_tree.specs as mpy_tree
pub use Rattle.mpy_tree.specs.bc_prelude
pub use Rattle.mpy_tree.specs.qstr_pool
pub mod Body
pub mod Rule
pub mod Rules
pub mod Verified
