pub use Rattle.prim_outputs.specs as prim_outputs
pub mod Binding
pub mod Callees
pub mod Calls
pub mod Families
pub mod Slots
