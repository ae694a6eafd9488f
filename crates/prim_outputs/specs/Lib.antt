pub use Rattle.py_effects.specs as py_effects
pub mod Ends
pub mod PortCalls
pub mod Prints
pub mod Reports
pub mod Rooms
