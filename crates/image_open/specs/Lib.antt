pub use Rattle.image_grammar.specs as image_grammar
pub use Rattle.image_grammar.specs.bc_library
pub use Rattle.image_grammar.specs.bc_verify
pub use Rattle.image_grammar.specs.mpy_reader
pub use Rattle.image_grammar.specs.mpy_tree
pub use Rattle.mpy_base.specs as mpy_base
pub mod Counts
pub mod Opens
