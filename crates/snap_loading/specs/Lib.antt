pub use Rattle.snap_grammar.specs as snap_grammar
pub use Rattle.snap_states.specs as snap_states
pub mod Coded
pub mod Given
pub mod Loaded
pub mod Looked
pub mod Mixed
pub mod Paid
pub mod Resumed
pub mod Same
pub mod Saved
pub mod Shells
pub mod Suspended
pub mod Framing
pub mod Texts
