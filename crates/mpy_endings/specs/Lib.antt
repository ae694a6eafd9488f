pub use Rattle.board_plan.specs as board_plan
pub use Rattle.image_runs.specs as image_runs
pub use Rattle.image_runs.specs.image_open
pub use Rattle.manifest_files.specs as manifest_files
pub use Rattle.mpy_merge.specs.mpy_writer
pub use Rattle.mpy_words.specs as mpy_words
pub mod Ending
pub mod Line
