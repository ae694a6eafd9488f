pub use Rattle.mpy_endings.specs as mpy_endings
pub use Rattle.mpy_endings.specs.board_plan
pub use Rattle.mpy_endings.specs.image_runs
pub use Rattle.mpy_endings.specs.manifest_files
pub use Rattle.mpy_endings.specs.mpy_words
pub use Rattle.mpy_endings.specs.mpy_writer
pub use Rattle.source_files.specs as source_files
pub use Rattle.source_files.specs.mpy_compile
pub use Rattle.source_files.specs.pkg_paths
pub mod Folder
pub mod Opened
pub mod Images
pub mod Source
pub mod Outside
pub mod Over
