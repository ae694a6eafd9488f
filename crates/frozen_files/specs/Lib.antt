pub use Rattle.image_freeze.specs as image_freeze
pub use Rattle.image_freeze.specs.mpy_merge
pub use Rattle.manifest_lines.specs as manifest_lines
pub use Rattle.source_files.specs as source_files
pub use Rattle.source_files.specs.library_files
pub use Rattle.source_files.specs.mpy_compile
pub use Rattle.source_files.specs.pkg_paths
pub mod Sources
pub mod Frozen
pub mod Given
