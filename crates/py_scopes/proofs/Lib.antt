pub use Rattle.py_tree.proofs as py_tree_lemmas
pub mod Acts
pub mod Tables
pub mod Walks
pub mod Judging
pub mod Once
