pub use Rattle.bc_library.specs as bc_library
pub use Rattle.command_files.specs as command_files
pub use Rattle.command_files.specs.board_plan
pub use Rattle.command_files.specs.image_runs
pub use Rattle.command_files.specs.mpy_endings
pub use Rattle.library_files.specs as library_files
pub use Rattle.library_runs.specs as library_runs
pub mod Base
pub mod Go
pub mod Run
pub mod Ready
pub mod Save
pub mod Resume
pub mod Suspended
pub mod Draws
pub mod Source
pub mod Stress
