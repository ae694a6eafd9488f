pub use Rattle.mpy_base.specs as mpy_base
pub use Rattle.prim_types.specs as prim_types
pub use Rattle.prim_types.specs.prim_faults
pub use Rattle.prim_types.specs.qstr_pool
pub use Rattle.py_effects.specs as py_effects
pub mod Makings
pub mod Places
pub mod Raised
pub mod Worlds
