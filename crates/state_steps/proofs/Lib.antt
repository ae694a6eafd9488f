pub use Rattle.state_calls.proofs.bc_progress_lemmas
mod Forms
mod Landing
mod Imported
mod Made
mod Called
mod Finished
mod Rooms
