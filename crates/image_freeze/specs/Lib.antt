pub use Rattle.image_open.specs as image_open
pub use Rattle.mpy_merge.specs as mpy_merge
pub mod Ended
pub mod Ends
pub mod Fronts
pub mod Frozen
pub mod Migrated
pub mod Uses
