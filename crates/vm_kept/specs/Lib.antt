pub use Rattle.state_calls.specs as state_calls
pub use Rattle.state_exits.specs as state_exits
pub mod Kept
