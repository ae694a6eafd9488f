pub use Rattle.image_grammar.proofs as image_grammar_lemmas
pub use Rattle.image_grammar.proofs.bc_library_lemmas
pub use Rattle.image_grammar.proofs.mpy_reader_lemmas
pub use Rattle.qstr_pool.proofs as qstr_pool_lemmas
pub mod Base
pub mod Behind
pub mod Below
pub mod Found
pub mod ModuleCopies
pub mod Named
pub mod Opened
pub mod Pools
pub mod Put
pub mod Results
pub mod Shelves
pub mod Single
pub mod Sound
pub mod Taken
pub mod Told
pub mod Turns
pub mod Uses
pub mod Whole
pub mod Written
