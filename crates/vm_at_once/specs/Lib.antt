pub use Rattle.state_values.specs as state_values
pub mod AtOnce
pub mod Numbers
