pub use Rattle.frame_calls.proofs.prim_walks_lemmas
pub use Rattle.vm_states.proofs.bc_progress_lemmas
pub use Rattle.vm_states.proofs.frame_moves_lemmas
mod Acted
mod Arriving
mod Bases
mod Comings
mod Fitting
mod Functions
mod Heaps
mod Keepings
mod Looking
mod Places
mod Puttings
mod Takings
