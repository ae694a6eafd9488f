pub use Rattle.py_values.specs as py_values
pub use Rattle.py_values.specs.mpy_base
pub mod Builtins
pub mod Calls
pub mod Faults
pub mod Iterables
pub mod Methods
pub mod Operators
pub mod Order
pub mod Outcome
pub mod Output
pub mod Texts
pub mod Uses
pub mod Walks
