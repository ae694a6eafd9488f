pub use Rattle.image_open.specs as image_open
pub use Rattle.library_files.specs as library_files
pub mod Main
