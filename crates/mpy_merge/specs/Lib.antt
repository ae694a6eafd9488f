pub use Rattle.mpy_base.specs as mpy_base
pub use Rattle.mpy_writer.specs as mpy_writer
pub use Rattle.qstr_pool.specs as qstr_pool
pub mod AsMerge
pub mod Ends
pub mod Far
pub mod Faults
pub mod Heads
pub mod Joined
pub mod Kept
pub mod Merged
pub mod Moved
pub mod Numbers
pub mod Written
