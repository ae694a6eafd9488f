pub use Rattle.bc_scheme.proofs as bc_scheme_lemmas
pub use Rattle.py_tree.proofs as py_tree_lemmas
pub mod Exprs
pub mod Faulty
pub mod LayerHeights
pub mod LayerLengths
pub mod Limiting
pub mod Locals
pub mod Names
pub mod Early
pub mod Numbers
pub mod PlainHeights
pub mod PlainLengths
pub mod Rows
pub mod Spans
pub mod Stmts
pub mod StoreHeights
pub mod StoreLengths
pub mod Sums
pub mod Targets
pub mod Texts
