pub use Rattle.py_expressions.proofs as py_expressions_lemmas
pub use Rattle.py_nest.proofs as py_nest_lemmas
pub use Rattle.py_statements.proofs as py_statements_lemmas
pub mod Below
pub mod Sounder
pub mod Stops
pub mod Sizes
pub mod Completer
pub mod Longest
pub mod Headers
pub mod Whole
pub mod Tails
pub mod Names
pub mod Differ
pub mod Made
pub mod Parses
pub mod Formed
pub mod Lines
pub mod Defs
pub mod FormedTree
pub mod Ended
pub mod Produced
pub mod Produces
