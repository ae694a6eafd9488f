pub use Rattle.bc_library.specs as bc_library
pub use Rattle.mpy_reader.specs as mpy_reader
pub use Rattle.pkg_paths.specs as pkg_paths
pub mod Imports
pub mod Comes
pub mod Search
pub mod Asked
pub mod Loads
pub mod Ends
pub mod Steps
