pub use Rattle.mpy_base.specs as mpy_base
pub mod Joins
pub mod Partly
pub mod Shape
pub mod Spans
pub mod Views
