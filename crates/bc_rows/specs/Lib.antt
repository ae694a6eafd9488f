pub use Rattle.bc_library.specs as bc_library
pub use Rattle.bc_library.specs.bc_flow
pub use Rattle.bc_library.specs.bc_verify
pub use Rattle.bc_machine.specs.mpy_tree
pub mod Codes
pub mod Made
pub mod Rows
pub mod Runs
