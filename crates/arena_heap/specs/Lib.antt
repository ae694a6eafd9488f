pub use Rattle.qstr_pool.specs as qstr_pool
pub mod Building
pub mod Cells
pub mod Constants
pub mod Dicts
pub mod Links
pub mod Named
pub mod Values
