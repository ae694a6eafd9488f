-- Calls whose call instruction gives a value run the program again, whatever the value.
use Rattle.std.proofs.Common.{◌≡◌, ℕ, zero, suc, ◌+◌, List, [], ◌∷◌, length, map, drop, Some, All, refl, sym, ap, subst, ◌∙◌, arith}
use Rattle.std.specs.Prelude.{slice_get}
use Rattle.std.proofs.lemmas.List.{drop-map}
use Rattle.std.proofs.lemmas.List.Elements.{All-cons, All-head, All-tail}
use Rattle.std.proofs.lemmas.Option.{same_Some}
use Rattle.vm_states.specs.mpy_base.Val.{PlainWorld}
use Rattle.bc_progress.specs.bc_flow.bc_shapes.declared.kinds.Kind.TheVariants as kinds
use Rattle.bc_progress.specs.bc_flow.bc_shapes.declared.kinds.Want.{Want}
use Rattle.bc_progress.specs.bc_flow.bc_shapes.declared.kinds.Want.TheVariants as wants
use Rattle.bc_progress.specs.bc_flow.bc_shapes.declared.kinds.Give.TheVariants.{New}
use Rattle.bc_progress.specs.bc_flow.bc_shapes.Shape.{takes}
use Rattle.vm_states.specs.bc_ops.declared.instr.Instr.TheVariants as instrs
use Rattle.bc_progress.specs.bc_flow.Action.{Straight, op_action, instr_action, arguments}
use Rattle.bc_progress.specs.bc_flow.Machine as flow
use Rattle.vm_states.specs.mpy_tree.bc_prelude.Lines as lines
use Rattle.frame_calls.specs.arena_heap.declared.value.Value.{Value}
use Rattle.bc_progress.specs.py_effects.Effect.{Place}
use Rattle.bc_progress.specs.py_effects.Ends.{new_world}
use Rattle.frame_calls.specs.bc_labels.Positions.{Starts, position_in}
use Rattle.frame_calls.specs.bc_machine.Library.{Line, Plain}
use Rattle.frame_calls.specs.bc_machine.State as states
use Rattle.frame_calls.specs.bc_machine.State.{State, Frame, Running, go}
use Rattle.vm_states.specs.bc_progress.Fits.{Fits}
use Rattle.vm_states.specs.bc_progress.Plans.{action_of, flow_of}
use Rattle.vm_states.specs.bc_progress.Slots.{anything, value, ShowsAll, more}
use Rattle.vm_states.proofs.bc_progress_lemmas.Showing.{shows_drop, takes-length}
use Rattle.vm_states.proofs.bc_progress_lemmas.Knowing.{all_covered}
use Rattle.vm_states.proofs.bc_progress_lemmas.Steps.{straight, nexts}
use Rattle.vm_states.specs.vm_frames.declared.slot.Slot.TheVariants as slots
use Rattle.vm_states.specs.vm_frames.Calls.{Call, Calls, change_first, on_running}
use Rattle.vm_states.specs.vm_frames.Placed.{IsPlaced}
use Rattle.vm_states.specs.vm_frames.Views.{slot_of, slots_of, starts_of, position_of, frame_of}
use Rattle.vm_states.specs.frame_moves.Shown.{view_of, value_of}
use Rattle.vm_states.proofs.frame_moves_lemmas.Stepping.{goes_to}
use Rattle.vm_states.specs.vm_fetching.declared.operations.CallOp.{CallOp}
use Rattle.vm_states.specs.vm_fetching.declared.operations.CallOp.TheVariants as call_ops
use Rattle.vm_states.specs.vm_fetching.declared.instruction.Fetched.{Fetched}
use Rattle.vm_states.specs.vm_fetching.Instructions as fetched
use Rattle.vm_states.specs.vm_fetching.Operations.{call_op}
use Rattle.vm_states.specs.vm_fetching.Shows.{item_of_fetched}
use Rattle.frame_calls.specs.Operands.{operands_count}
use Rattle.frame_calls.specs.Putting.{with_value}
use Rattle.vm_states.specs.Means.{Program, Means}
use Rattle.vm_states.specs.Running.{FitCalls, HasRooms, IsOfModule, IsRunning}
use Rattle.state_calls.specs.Runs.{IsFetchedAt}
use Rattle.state_calls.specs.Taken.{callee_slots}
use Rattle.state_calls.proofs.Places as places

get_map : {A B : Type 0} (f : A → B) (xs : List A) (i : ℕ) (x : A) → slice_get xs i ≡ Some x → slice_get (map f xs) i ≡ Some (f x)
get_map f [] i x e = cc
get_map f (y ∷ xs) zero x e = ap (λ z. Some (f z)) (same_Some y x e)
get_map f (y ∷ xs) (suc i) x e = get_map f xs i x e

-- what a call takes
abbrev pub wants_of : CallOp → ℕ → List Want
wants_of call_ops.CallMethod n = takes (arguments n) (wants.Method ∷ wants.Value ∷ [])
wants_of op n = takes (arguments n + 1) []

pub call_action : (op : CallOp) (n : ℕ) → instr_action (instrs.Num (call_op op) n) ≡ Straight (wants_of op n) (New kinds.Value ∷ [])
unfolding instr_action op_action
call_action call_ops.CallFunction n = refl
call_action call_ops.CallMethod n = refl

pub wants_count : (op : CallOp) (n : ℕ) → length (wants_of op n) ≡ operands_count n + callee_slots op
wants_count call_ops.CallFunction n = let e = takes-length (arguments n + 1) [] in omega (arith, e)
wants_count call_ops.CallMethod n = let e = takes-length (arguments n) (wants.Method ∷ wants.Value ∷ []) in omega (arith, e)

pub same_rooms : (p : Program) (s new : Calls) → new.slot_room ≡ s.slot_room → new.entry_room ≡ s.entry_room → HasRooms p s → HasRooms p new
same_rooms p s new slots entries h = record {
  slots = λ name number code is. let r = h.slots name number code is in omega (arith, r, slots);
  entries = λ name number code is. let r = h.entries name number code is in omega (arith, r, entries);
}

module _ (p : Program) (means : Means p) (s : Calls) (c : Call) (cs : List Call) (are : s.calls ≡ c ∷ cs) (run : IsRunning p s) where
  pub first_fits : FitCalls p (c ∷ cs)
  first_fits = subst (FitCalls p) are run.fits

  pub first_inside : IsOfModule p c
  first_inside = All-head (IsOfModule p) c cs (subst (All (IsOfModule p)) are run.of_modules)

  module _ (laws : places.Laws) (op : CallOp) (number end : ℕ) where
    abbrev Read : Fetched
    Read = record { instruction = fetched.call op number; end = end }

    -- the line that the first call stands at
    line_is : IsFetchedAt p.shelf Read c → (l : Line) × (slice_get first_fits.0.code.lines (position_of (view_of p.tables) c) ≡ Some l) × (l.item ≡ Plain (instrs.Num (call_op op) number))
    line_is read =
        let here = places.here p means c.module_number first_inside in
        let stands = first_fits.0 in
        let placed = All-head (IsPlaced (view_of p.tables)) c cs (subst (All (IsPlaced (view_of p.tables))) are run.placed) in
        let runs = places.runs_as p means c.module_number first_inside laws c.code read.row stands.code read.is_row stands.code_is in
        let l = read.is_row.is_row.list in
        let listed = read.is_row.is_row.listed in
        let starts : p.tables.starts c.module_number c.code ≡ l.offsets = here.meant.starts_are c.code read.row l read.is_row listed in
        let at : Starts l.offsets c.at = subst (λ (o : List ℕ). Starts o c.at) (sym placed.starts_are ∙ starts) placed.here in
        let f = read.is_fetched p.tables here.n.held stands.code l means.constants here.there runs listed at in (
          record { item = item_of_fetched p.tables l.offsets Read.instruction; line = lines.line_of read.row.line_table.now c.at },
          ap (λ (o : List ℕ). slice_get stands.code.lines (position_in o c.at)) starts ∙ f.line,
          refl,
        )

    module _ (read : IsFetchedAt p.shelf Read c) (size : ℕ) (size_is : size ≡ operands_count number + callee_slots op)
        (next : position_in (starts_of (view_of p.tables) c) end ≡ suc (position_of (view_of p.tables) c)) (v : Value) where
      abbrev frame : Frame
      frame = frame_of (view_of p.tables) c

      abbrev frames : List Frame
      frames = map (frame_of (view_of p.tables)) cs

      abbrev place : Place
      place = record { file = []; line = 0; name = [] }

      none : PlainWorld
      none = new_world 0 0 []

      fits : FitCalls p (with_value end size v c ∷ cs)
      fits =
          let ws = wants_of op number in
          let stands = first_fits.0 in
          let below = first_fits.1 in
          let line = line_is read in
          let action : slice_get (flow_of (p.plans frame.module_name frame.code) stands.code).actions frame.position ≡ Some (Straight ws (New kinds.Value ∷ [])) =
          get_map (λ (l : Line). action_of l.item) stands.code.lines frame.position line.0 line.1 ∙ (ap (λ z. Some (action_of z)) line.2 ∙ ap Some (call_action op number)) in
          let goes = straight anything p.plans p.library means.follows place 0 frame frames none stands below ws (New kinds.Value ∷ []) action in
          let many : length ws ≡ size = wants_count op number ∙ sym size_is in
          let starts = starts_of (view_of p.tables) c in
          let shows : ShowsAll (slots_of (view_of p.tables) starts (drop size c.slots)) (drop (length ws) stands.stack) =
          subst (λ z. ShowsAll z (drop (length ws) stands.stack)) (drop-map (slot_of (view_of p.tables) starts) (length ws) c.slots ∙ ap (λ k. slots_of (view_of p.tables) starts (drop k c.slots)) many)
          (shows_drop (length ws) frame.slots stands.stack stands.shows) in
          let comes : Fits p.plans p.library (go (suc frame.position) (slots_of (view_of p.tables) starts (slots.Value v ∷ drop size c.slots)) frame.entries frame frames none) =
          nexts anything p.plans p.library means.follows place 0 frame frames none stands below (states.Value (value_of p.tables v) ∷ slots_of (view_of p.tables) starts (drop size c.slots)) (flow.Value ∷ drop (length ws) stands.stack) none (more value shows) goes.1 (all_covered none.heap.objects) in
          subst (Fits p.plans p.library) (goes_to (view_of p.tables) c (suc frame.position) end (slots.Value v ∷ drop size c.slots) frames none next) comes

      -- with the value in the place of what the call takes, and at the next instruction, the calls run
      pub value_runs : (new : Calls) → new ≡ on_running (with_value end size v) s → Starts (starts_of (view_of p.tables) c) end → IsRunning p new
      value_runs new moved begins =
          let P : Call → Type 0 = λ z. IsPlaced (view_of p.tables) z in
          let to : new.calls ≡ with_value end size v c ∷ cs = ap (λ (z : Calls). z.calls) moved ∙ ap (change_first (with_value end size v)) are in
          let old_placed : All P (c ∷ cs) = subst (All P) are run.placed in
          let q = All-head P c cs old_placed in
          let placed : P (with_value end size v c) = record { bytes = q.bytes; list = q.list; listed = q.listed; starts_are = q.starts_are; here = subst (λ (o : List ℕ). Starts o end) q.starts_are begins; handlers = q.handlers } in
          let old_modules : All (IsOfModule p) (c ∷ cs) = subst (All (IsOfModule p)) are run.of_modules in
          record {
            fits = subst (FitCalls p) (sym to) fits;
            placed = subst (All P) (sym to) (All-cons P (with_value end size v c) cs placed (All-tail P c cs old_placed));
            of_modules = subst (All (IsOfModule p)) (sym to) (All-cons (IsOfModule p) (with_value end size v c) cs first_inside (All-tail (IsOfModule p) c cs old_modules));
            rooms = same_rooms p s new (ap (λ (z : Calls). z.slot_room) moved) (ap (λ (z : Calls). z.entry_room) moved) run.rooms;
          }
