pub use Rattle.bc_labels.specs as bc_labels
pub use Rattle.mpy_tree.specs as mpy_tree
pub use Rattle.mpy_tree.specs.qstr_pool
pub mod Codes
pub mod Ends
pub mod File
pub mod Layouts
pub mod Outcome
pub mod Positions
pub mod Tables
pub mod Wide
pub mod Writable
