pub use Rattle.bc_machine.proofs as bc_machine_lemmas
pub use Rattle.bc_machine.proofs.bc_ops_lemmas
pub use Rattle.bc_machine.proofs.mpy_base_lemmas
pub use Rattle.bc_machine.proofs.mpy_tree_lemmas
pub use Rattle.bc_machine.proofs.py_effects_lemmas
pub use Rattle.bc_machine.proofs.py_values_lemmas
pub use Rattle.py_meaning.proofs as py_meaning_lemmas
pub use Rattle.py_meaning.proofs.py_scopes_lemmas
mod MergeExamples
