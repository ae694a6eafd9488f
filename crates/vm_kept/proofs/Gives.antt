-- Calls that a value was given.
use Rattle.std.proofs.Common.{◌≡◌, ℕ, suc, ◌+◌, List, [], ◌∷◌, length, map, drop, Some, refl, sym, ap, subst, ◌∙◌, arith}
use Rattle.std.specs.Prelude.{slice_get}
use Rattle.std.proofs.lemmas.List.{drop-map}
use Rattle.std.proofs.lemmas.Option.{same_Some}
use Rattle.state_calls.specs.mpy_base.World.{Objects, Heap, Later}
use Rattle.state_calls.specs.mpy_base.Val.{PlainWorld}
use Rattle.bc_progress.specs.bc_flow.bc_shapes.declared.kinds.Kind.TheVariants as kinds
use Rattle.bc_progress.specs.bc_flow.bc_shapes.declared.kinds.Give.TheVariants.{New}
use Rattle.bc_progress.specs.bc_flow.bc_shapes.declared.kinds.Want.{Want}
use Rattle.bc_progress.specs.bc_flow.bc_shapes.declared.kinds.Want.TheVariants as wants
use Rattle.bc_progress.specs.bc_flow.bc_shapes.Shape.{takes}
use Rattle.bc_progress.specs.bc_ops.declared.instr.Instr.TheVariants as instrs
use Rattle.bc_progress.specs.bc_flow.Action.{Straight, op_action, instr_action, arguments}
use Rattle.bc_progress.specs.bc_flow.Machine as flow
use Rattle.state_calls.specs.arena_heap.declared.value.Value.{Value}
use Rattle.bc_progress.specs.py_effects.Effect.{Place}
use Rattle.state_calls.specs.bc_labels.Positions.{position_in}
use Rattle.state_calls.specs.bc_machine.Library.{Code, Line}
use Rattle.state_calls.specs.bc_machine.State as states
use Rattle.state_calls.specs.bc_machine.State.{State, Frame, Running, go}
use Rattle.state_calls.specs.bc_progress.Slots.{Facts, value, ShowsAllIn, more}
use Rattle.state_calls.specs.bc_progress.Plans.{action_of, flow_of}
use Rattle.state_calls.specs.bc_progress.Fits.{StandsIn, BelowIn, FitsIn}
use Rattle.state_calls.specs.bc_progress.Known.{facts_of}
use Rattle.state_calls.proofs.bc_progress_lemmas.Showing.{shows_drop, takes-length}
use Rattle.state_calls.proofs.bc_progress_lemmas.Knowing.{own_covered}
use Rattle.state_calls.proofs.bc_progress_lemmas.Steps.{straight, nexts}
use Rattle.state_calls.proofs.bc_progress_lemmas.Others.{stands_more, below_more, objects_more}
use Rattle.state_calls.specs.bc_rows.declared.row.Row.{Row}
use Rattle.state_calls.specs.vm_frames.declared.slot.Slot.TheVariants as slots
use Rattle.state_calls.specs.vm_frames.Calls.{Call, Calls, change_first, on_running}
use Rattle.state_calls.specs.vm_frames.Views.{slot_of, slots_of, starts_of, position_of, frame_of}
use Rattle.state_calls.specs.frame_moves.Shown.{IsNext, view_of, value_of, running_of}
use Rattle.state_calls.proofs.frame_moves_lemmas.Stepping.{goes_to}
use Rattle.state_calls.specs.vm_fetching.declared.operations.CallOp.{CallOp}
use Rattle.state_calls.specs.vm_fetching.declared.operations.CallOp.TheVariants as call_ops
use Rattle.state_calls.specs.vm_fetching.Operations.{call_op}
use Rattle.state_calls.specs.vm_fetching.declared.instruction.Fetched.{Fetched}
use Rattle.state_calls.specs.vm_fetching.Instructions as fetched
use Rattle.state_calls.specs.frame_calls.Operands.{operands_count}
use Rattle.state_calls.specs.frame_calls.Putting.{with_value}
use Rattle.state_calls.specs.vm_states.Means.{Program, Means}
use Rattle.state_calls.specs.vm_states.Ready.{IsReady}
use Rattle.state_calls.specs.Taken.{callee_slots}
use Rattle.vm_kept.specs.Kept.{KeepCalls, HoldsKept}
use Rattle.vm_kept.proofs.Plain.{get_map, to_plain}
use Rattle.vm_kept.proofs.Steps.{plain_of, first_later, kept_in}

abbrev pub at_call : CallOp → (number end : ℕ) → Fetched
at_call op number end = record { instruction = fetched.call op number; end = end }

-- what a call takes: it gives one value
record Takes (op : CallOp) (n : ℕ) : Type 0 where
  pub wants : List Want
  pub action : instr_action (instrs.Num (call_op op) n) ≡ Straight wants (New kinds.Value ∷ [])
  pub count : length wants ≡ operands_count n + callee_slots op

call_takes : (op : CallOp) (n : ℕ) → Takes op n
unfolding instr_action op_action
call_takes call_ops.CallFunction n = record { wants = takes (arguments n + 1) []; action = refl; count = let e = takes-length (arguments n + 1) [] in omega (arith, e) }
call_takes call_ops.CallMethod n = record { wants = takes (arguments n) (wants.Method ∷ wants.Value ∷ []); action = refl; count = let e = takes-length (arguments n) (wants.Method ∷ wants.Value ∷ []) in omega (arith, e) }

module _ (p : Program) (means : Means p) (row : Row) (op : CallOp) (number end size : ℕ) (size_is : size ≡ operands_count number + callee_slots op) (v : Value)
    (s : Calls) (r : IsReady p s row (at_call op number end)) (heap : Heap Value ℕ) where
  abbrev frame : Frame
  frame = frame_of (view_of p.tables) r.first

  abbrev frames : List Frame
  frames = map (frame_of (view_of p.tables)) r.others

  abbrev starts : List ℕ
  starts = starts_of (view_of p.tables) r.first

  abbrev place : Place
  place = record { file = []; line = 0; name = [] }

  -- the objects in a world of their own
  abbrev world : PlainWorld
  world = record { heap = record { objects = plain_of p heap; bytes = 0; cell_size = 0; byte_size = 0 }; modules = []; ports = []; output = [] }

  abbrev facts : Facts
  facts = facts_of (plain_of p heap)

  abbrev given : List Call
  given = with_value end size v r.first ∷ r.others

  next : position_in starts end ≡ suc (position_of (view_of p.tables) r.first)
  next = subst (IsNext p.tables end) r.are r.next

  fits : StandsIn facts p.plans p.library frame → BelowIn facts p.plans p.library frame.role frames → FitsIn facts p.plans p.library (running_of p.tables 0 given world)
  fits stands below =
      let t = call_takes op number in
      let ws = t.wants in
      let same : r.code ≡ stands.code = same_Some r.code stands.code (sym r.code_is ∙ stands.code_is) in
      let line_is : slice_get stands.code.lines frame.position ≡ Some r.line = subst (λ (z : Code). slice_get z.lines frame.position ≡ Some r.line) same r.line_is in
      let action : slice_get (flow_of (p.plans frame.module_name frame.code) stands.code).actions frame.position ≡ Some (Straight ws (New kinds.Value ∷ [])) =
      get_map (λ (l : Line). action_of l.item) stands.code.lines frame.position r.line line_is ∙ (ap (λ z. Some (action_of z)) r.item_is ∙ ap Some t.action) in
      let goes = straight facts p.plans p.library means.follows place 0 frame frames world stands below ws (New kinds.Value ∷ []) action in
      let many : length ws ≡ size = t.count ∙ sym size_is in
      let shows : ShowsAllIn facts (slots_of (view_of p.tables) starts (drop size r.first.slots)) (drop (length ws) stands.stack) =
      subst (λ z. ShowsAllIn facts z (drop (length ws) stands.stack)) (drop-map (slot_of (view_of p.tables) starts) (length ws) r.first.slots ∙ ap (λ k. slots_of (view_of p.tables) starts (drop k r.first.slots)) many)
      (shows_drop (length ws) frame.slots stands.stack stands.shows) in
      let comes : FitsIn facts p.plans p.library (go (suc frame.position) (slots_of (view_of p.tables) starts (slots.Value v ∷ drop size r.first.slots)) frame.entries frame frames world) =
      nexts facts p.plans p.library means.follows place 0 frame frames world stands below (states.Value (value_of p.tables v) ∷ slots_of (view_of p.tables) starts (drop size r.first.slots)) (flow.Value ∷ drop (length ws) stands.stack) world (more value shows) goes.1
      (own_covered (plain_of p heap)) in
      subst (FitsIn facts p.plans p.library) (goes_to (view_of p.tables) r.first (suc frame.position) end (slots.Value v ∷ drop size r.first.slots) frames world next) comes

  pub value_given : (before : Objects Value ℕ) → HoldsKept p before s → Later before heap.objects → (new : Calls) → new ≡ on_running (with_value end size v) s → HoldsKept p heap.objects new
  value_given before holds later new moved =
      let keep : KeepCalls p before (r.first ∷ r.others) = subst (KeepCalls p before) r.are holds.calls in
      let h = first_later p before heap.objects r.first r.others later keep in
      let known = facts_of heap.objects in
      let gives = objects_more heap.objects (plain_of p heap) (to_plain p.tables.texts p.tables.tuples heap.objects) in
      let fit = fits (stands_more known facts gives p.plans p.library frame h.0) (below_more known facts gives p.plans p.library frame.role frames h.1) in
      let to : new.calls ≡ given = ap (λ (z : Calls). z.calls) moved ∙ ap (change_first (with_value end size v)) r.are in
      kept_in p heap new 0 world (running_of p.tables 0 given world) (ap (λ z. running_of p.tables 0 z world) (sym to)) fit
