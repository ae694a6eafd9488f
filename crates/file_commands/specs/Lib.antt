pub use Rattle.command_files.specs as command_files
pub use Rattle.command_files.specs.mpy_endings
pub use Rattle.command_files.specs.mpy_writer
pub use Rattle.frozen_files.specs.mpy_compile
pub use Rattle.mpy_io.specs as mpy_io
pub use Rattle.mpy_merge.specs as mpy_merge
pub mod Check
pub mod Dump
pub mod Cross
pub mod Merge
pub mod Texts
pub mod CheckAs
pub mod Freeze
pub mod Migrate
