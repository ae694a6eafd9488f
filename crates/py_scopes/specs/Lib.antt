pub use Rattle.py_tree.specs as py_tree
pub mod Events
pub mod Names
pub mod Asked
pub mod Scopes
