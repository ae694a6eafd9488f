pub use Rattle.py_parser.proofs as py_parser_lemmas
pub use Rattle.py_parser.proofs.py_expressions_lemmas
pub use Rattle.py_parser.proofs.py_statements_lemmas
pub use Rattle.py_tokens.proofs as py_tokens_lemmas
pub mod Once
pub mod Owed
pub mod Always
pub mod Asked
