pub use Rattle.bc_library.specs as bc_library
pub use Rattle.bc_library.specs.bc_verify
pub use Rattle.mpy_reader.specs as mpy_reader
pub use Rattle.mpy_reader.specs.mpy_tree
pub mod Base
pub mod Fault
pub mod Fine
pub mod Image
pub mod Opening
pub mod Steps
