pub use Rattle.bc_machine.specs as bc_machine
pub use Rattle.bc_machine.specs.bc_ops
pub use Rattle.bc_machine.specs.mpy_base
pub use Rattle.bc_machine.specs.mpy_tree
pub use Rattle.bc_machine.specs.py_effects
pub use Rattle.bc_machine.specs.py_primitives
pub use Rattle.bc_machine.specs.py_values
pub use Rattle.py_meaning.specs as py_meaning
pub use Rattle.py_meaning.specs.py_scopes
pub use Rattle.py_meaning.specs.py_tree
pub mod Context
pub mod Correct
pub mod Expressions
pub mod Heights
pub mod Link
pub mod Merge
pub mod Statements
pub mod Translation
