pub use Rattle.vm_states.proofs.frame_moves_lemmas
pub use Rattle.vm_states.proofs.frame_values_lemmas
pub use Rattle.vm_states.proofs.prim_assignments_lemmas
pub use Rattle.vm_states.proofs.prim_comparisons_lemmas
mod Collecting
mod Constancy
mod Doing
mod Ending
mod Families
mod Finding
mod Iterating
mod Lacking
mod Moves
mod Shapes
mod Shifting
mod Stores
mod Testing
mod Visiting
