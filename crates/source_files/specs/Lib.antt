pub use Rattle.library_files.specs as library_files
pub use Rattle.library_files.specs.pkg_paths
pub use Rattle.mpy_compile.specs as mpy_compile
pub mod Sources
