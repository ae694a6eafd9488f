pub use Rattle.image_grammar.specs as image_grammar
pub mod Answers
pub mod Entries
pub mod Faults
pub mod FrozenFaults
pub mod Plain
pub mod Quiet
