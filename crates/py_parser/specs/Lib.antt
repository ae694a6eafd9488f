pub use Rattle.py_expressions.specs as py_expressions
pub use Rattle.py_nest.specs as py_nest
pub use Rattle.py_statements.specs as py_statements
pub mod Clauses
pub mod Grammar
pub mod Productions
pub mod Reading
pub mod Fronts
pub mod Nests
pub mod Parsed
