pub use Rattle.bc_scheme.specs as bc_scheme
pub use Rattle.bc_scheme.specs.bc_machine
pub use Rattle.bc_scheme.specs.py_meaning
pub use Rattle.bc_scheme.specs.py_scopes
pub mod Faults
pub mod Lengths
pub mod Limits
pub mod Named
pub mod Rows
pub mod Stands
pub mod TextLengths
pub mod Wide
