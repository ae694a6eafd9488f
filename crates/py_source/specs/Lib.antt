pub use Rattle.py_parser.specs as py_parser
pub use Rattle.py_parser.specs.py_expressions
pub use Rattle.py_parser.specs.py_statements
pub use Rattle.py_tokens.specs as py_tokens
pub mod Source
