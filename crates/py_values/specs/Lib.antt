pub use Rattle.mpy_base.specs as mpy_base
pub mod Bits
pub mod Division
pub mod Equality
pub mod Keys
pub mod Names
pub mod Power
pub mod Range
pub mod Shifts
pub mod Shown
pub mod Small
