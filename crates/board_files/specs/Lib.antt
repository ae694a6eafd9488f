pub use Rattle.board_plan.specs as board_plan
pub use Rattle.board_tasks.specs as board_tasks
pub use Rattle.board_tasks.specs.vm_starting
pub mod Files
pub mod Runs
pub mod Summaries
pub mod Lines
pub mod Written
pub mod Stopped
