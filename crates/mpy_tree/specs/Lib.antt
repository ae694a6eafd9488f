pub use Rattle.bc_ops.specs as bc_ops
pub use Rattle.bc_prelude.specs as bc_prelude
pub use Rattle.qstr_pool.specs as qstr_pool
pub use Rattle.qstr_pool.specs.mpy_base
pub mod Canonical
pub mod Codes
pub mod File
pub mod FirstUse
pub mod Raw
pub mod Resolved
pub mod Values
