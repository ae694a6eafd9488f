pub use Rattle.mpy_tree.specs as mpy_tree
pub mod Body
pub mod Fault
pub mod Reading
