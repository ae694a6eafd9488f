-- What is found on the running call is known.
use Rattle.std.proofs.Common.{◌≡◌, ℕ, List, ◌∷◌, All, subst}
use Rattle.std.proofs.lemmas.List.Elements.{All-head}
use Rattle.prim_faults.specs.arena_heap.declared.value.Value.{Value}
use Rattle.vm_states.specs.vm_frames.declared.slot.Slot.{Slot}
use Rattle.vm_states.specs.vm_frames.declared.slot.Slot.TheVariants as slots
use Rattle.vm_states.specs.vm_frames.Calls.{Calls}
use Rattle.vm_states.specs.vm_fetching.declared.instruction.Fetched.{Fetched}
use Rattle.vm_states.specs.bc_rows.declared.row.Row.{Row}
use Rattle.vm_states.specs.mpy_base.World.{Objects}
use Rattle.vm_states.specs.Means.{Program}
use Rattle.vm_states.specs.Ready.{IsReady}
use Rattle.vm_states.specs.State.{IsState, IsKnownValue, IsKnownSlot, IsKnownCall}
use Rattle.state_exits.proofs.Places.{all_first}

module _ (p : Program) (objects : Objects Value ℕ) where
  pub top_known : (st : List Slot) (v : Value) (below : List Slot) → st ≡ slots.Value v ∷ below → All (IsKnownSlot p objects) st → IsKnownValue p objects v
  top_known st v below are known = All-head (IsKnownSlot p objects) (slots.Value v) below (subst (All (IsKnownSlot p objects)) are known)

  module _ (s : Calls) (row : Row) (fetched : Fetched) (r : IsReady p s row fetched) (state : IsState p objects s) where
    pub first_known : IsKnownCall p objects r.first
    first_known = all_first p s row fetched r (IsKnownCall p objects) state.known
