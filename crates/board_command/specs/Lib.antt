pub use Rattle.board_files.specs as board_files
pub use Rattle.command_files.specs as command_files
pub mod Plans
pub mod TaskRuns
pub mod Boards
pub mod Ends
pub mod Meant
