pub use Rattle.py_values.proofs as py_values_lemmas
pub use Rattle.py_values.proofs.mpy_base_lemmas
mod CallExamples
mod PrimitiveExamples
pub mod CallTable
pub mod Makings
