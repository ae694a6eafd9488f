pub use Rattle.mpy_base.specs as mpy_base
pub mod Full
pub mod Pool
pub mod Slot
pub mod Static
