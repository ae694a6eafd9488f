pub use Rattle.mpy_base.specs as mpy_base
pub mod Code
pub mod Listing
pub mod Offset
pub mod Parting
pub mod Reading
pub mod Signed
pub mod Table
