pub use Rattle.prim_assignments.specs as prim_assignments
pub mod Effects
pub mod Held
pub mod Registry
