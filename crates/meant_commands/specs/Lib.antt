pub use Rattle.file_commands.specs as file_commands
pub use Rattle.library_files.specs as library_files
pub use Rattle.meant_files.specs.image_freeze
pub use Rattle.meant_files.specs.source_files
pub use Rattle.meant_files.specs.vm_states
pub use Rattle.run_commands.specs as run_commands
pub use Rattle.run_commands.specs.board_plan
pub mod Alike
pub mod GoMeant
pub mod Made
pub mod Meant
pub mod ResumeMeant
