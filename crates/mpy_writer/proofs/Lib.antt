pub use Rattle.bc_labels.proofs as bc_labels_lemmas
pub use Rattle.mpy_tree.proofs as mpy_tree_lemmas
pub mod Bodies
pub mod Faults
pub mod Fronts
pub mod Judged
pub mod Labelled
pub mod LineTables
pub mod Lists
pub mod Near
pub mod Numbered
pub mod Numbers
pub mod Objects
pub mod Own
pub mod Positions
pub mod Raws
pub mod Rounds
pub mod Samples
pub mod Shorter
pub mod Spelled
pub mod Steps
pub mod Texts
pub mod Trees
pub mod Uses
pub mod Whole
pub mod Widest
