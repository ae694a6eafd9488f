pub use Rattle.mpy_tree.proofs as mpy_tree_lemmas
pub use Rattle.mpy_tree.proofs.bc_prelude_lemmas
pub use Rattle.mpy_tree.proofs.qstr_pool_lemmas
pub mod Bodies
pub mod Breaking
pub mod Once
pub mod Trees
