-- What an instruction does in each program, by the texts and tuples that it tells.
use Rattle.std.proofs.Common.{◌≡◌, ℕ, List, Option, Result, refl, sym, subst}
use Rattle.state_values.specs.mpy_base.World.{Heap}
use Rattle.state_values.specs.prim_assignments.arena_heap.declared.value.Value.{Value}
use Rattle.state_values.specs.prim_assignments.arena_heap.declared.value.StrNo.{StrNo}
use Rattle.state_values.specs.prim_assignments.arena_heap.declared.value.ConstNo.{ConstNo}
use Rattle.state_values.specs.bc_labels.Positions.{position_in}
use Rattle.state_values.specs.bc_progress.bc_machine.Library.{Item}
use Rattle.state_values.specs.bc_rows.declared.row.Row.{Row}
use Rattle.state_values.specs.prim_assignments.prim_faults.declared.stop.Stop.{Stop}
use Rattle.state_values.specs.vm_frames.Calls.{Call, Calls}
use Rattle.state_values.specs.vm_frames.Views.{starts_of}
use Rattle.state_values.specs.frame_moves.Shown.{view_of, IsAt}
use Rattle.state_values.specs.frame_moves.Outcomes.{Does}
use Rattle.state_values.specs.frame_values.Effects.{Layout, Steps}
use Rattle.state_values.specs.vm_fetching.declared.instruction.Fetched.{Fetched}
use Rattle.state_values.specs.vm_states.Means.{Program}
use Rattle.state_values.specs.vm_states.Ready.{IsReady, item_at}
use Rattle.state_values.specs.vm_states.Acting.{Tells}
use Rattle.state_values.specs.Onward.{DoesBehind}

-- what is of these texts and tuples is of those of the program, and back
module _ (texts : StrNo → Option (List ℕ)) (tuples : ConstNo → Option (List Value)) (p : Program) (tells : Tells texts tuples p) (F : (StrNo → Option (List ℕ)) → (ConstNo → Option (List Value)) → Type 0) where
  pub of_program : F texts tuples → F p.tables.texts p.tables.tuples
  of_program h =
      subst (λ (t : StrNo → Option (List ℕ)). F t p.tables.tuples) (sym tells.texts_are) (subst (λ (u : ConstNo → Option (List Value)). F texts u) (sym tells.tuples_are) h)

  pub of_texts : F p.tables.texts p.tables.tuples → F texts tuples
  of_texts h =
      subst (λ (t : StrNo → Option (List ℕ)). F t tuples) tells.texts_are (subst (λ (u : ConstNo → Option (List Value)). F p.tables.texts u) tells.tuples_are h)

abbrev pub layout_of : Program → Layout
layout_of p = record { module_name = p.tables.module_name; starts = p.tables.starts }

module _ (texts : StrNo → Option (List ℕ)) (tuples : ConstNo → Option (List Value)) (fetched : Fetched) (before behind : Heap Value ℕ) (old new : Calls) (result : Result (Unit {0}) Stop) where
  -- of an item that is the machine's in each program
  pub does_steps : (visits : ℕ) (item : Item) → ((p : Program) (c : Call) → Tells texts tuples p → item_at p c fetched ≡ item)
      → Steps texts tuples item visits fetched.end before behind old.calls new.calls result → DoesBehind texts tuples fetched visits before behind old new result
  does_steps visits item is steps p row tells r =
      let here : Steps p.tables.texts p.tables.tuples item visits fetched.end before behind old.calls new.calls result =
      of_program texts tuples p tells (λ t u. Steps t u item visits fetched.end before behind old.calls new.calls result) steps in
      subst (λ (i : Item). Does p.tables i visits before behind old.calls new.calls result) (sym (is p r.first tells)) (here (layout_of p) r.next)

  pub at_first : (p : Program) (row : Row) (r : IsReady p old row fetched) (offset : ℕ) → IsAt p.tables offset (position_in (starts_of (view_of p.tables) r.first) offset) old.calls
  at_first p row r offset = subst (IsAt p.tables offset (position_in (starts_of (view_of p.tables) r.first) offset)) (sym r.are) refl
