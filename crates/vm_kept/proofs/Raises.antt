-- Calls behind a stop.
use Rattle.std.proofs.Common.{◌≡◌, ℕ, List, [], ◌∷◌, map, sym, ap, ◌∙◌, subst}
use Rattle.state_calls.specs.mpy_base.World.{Heap, Later}
use Rattle.state_calls.specs.mpy_base.Val.{PlainWorld}
use Rattle.state_calls.specs.arena_heap.declared.value.Value.{Value}
use Rattle.bc_progress.specs.py_effects.py_primitives.Outcome as primitives
use Rattle.bc_progress.specs.py_effects.Effect.{Place, Fails}
use Rattle.state_calls.specs.bc_progress.Slots.{Facts}
use Rattle.state_calls.specs.bc_progress.Known.{facts_of, objects_of}
use Rattle.state_calls.proofs.bc_progress_lemmas.Knowing.{Covers, FitsBehind, ThrowsKnown, fault_known, own_covered}
use Rattle.state_calls.proofs.bc_progress_lemmas.Frames.{fails_fit}
use Rattle.state_calls.proofs.bc_progress_lemmas.Others.{stands_more, below_more, objects_more}
use Rattle.state_calls.specs.prim_faults.declared.stop.Stop.{Stop}
use Rattle.state_calls.specs.prim_faults.Outcomes.{plain_stop}
use Rattle.state_calls.specs.prim_raising.Places.{stopped_at}
use Rattle.state_calls.specs.prim_modules.Registry.{Registry}
use Rattle.state_calls.specs.vm_frames.Calls.{Call, Calls}
use Rattle.state_calls.specs.vm_frames.Views.{frame_of}
use Rattle.state_calls.specs.frame_moves.Shown.{view_of, running_of}
use Rattle.state_calls.specs.frame_moves.Outcomes.{world_of, failing_of, stopping_of}
use Rattle.state_calls.specs.frame_exits.Ends.{with_modules}
use Rattle.state_calls.specs.vm_states.Means.{Program, Means}
use Rattle.vm_kept.specs.Kept.{KeepCalls, HoldsKept}
use Rattle.vm_kept.proofs.Plain.{to_plain}
use Rattle.vm_kept.proofs.Steps.{plain_of, running_objects, first_later, kept_in}

-- a stop throws a new exception, or nothing
stop_known : (facts : Facts) (place : Place) (w : PlainWorld) (stop : primitives.Stop) → ThrowsKnown facts (stopped_at place w stop)
stop_known facts place w (primitives.Raises fault) = fault_known facts place w fault
stop_known facts place w (primitives.Full e) = tt

module _ (p : Program) (means : Means p) where
  -- the first of the calls fails so
  failing_fits : (between behind : Heap Value ℕ) (calls : List Call) (f : Fails) → KeepCalls p between.objects calls → Later between.objects behind.objects → ThrowsKnown (facts_of (plain_of p behind)) f
      → FitsBehind (facts_of (plain_of p behind)) p.plans p.library (failing_of p.tables calls f)
  failing_fits between behind [] f keep later known = absurd keep
  failing_fits between behind (c ∷ cs) f keep later known =
      let frame = frame_of (view_of p.tables) c in
      let frames = map (frame_of (view_of p.tables)) cs in
      let facts = facts_of behind.objects in
      let others = facts_of (plain_of p behind) in
      let gives = objects_more behind.objects (plain_of p behind) (to_plain p.tables.texts p.tables.tuples behind.objects) in
      let h = first_later p between.objects behind.objects c cs later keep in
      fails_fit others p.plans p.library means.follows f known frame frames (stands_more facts others gives p.plans p.library frame h.0) (below_more facts others gives p.plans p.library frame.role frames h.1)

  pub raised : (place : Place) (between behind : Heap Value ℕ) (earlier later : Registry) (again : ℕ) (w v : PlainWorld) (old new : Calls) (stop : Stop) → HoldsKept p between.objects old → Later between.objects behind.objects
      → stopping_of p.tables place (with_modules p.tables w earlier) between old.calls stop ≡ running_of p.tables again new.calls (world_of p.tables (with_modules p.tables v later) behind) → HoldsKept p behind.objects new
  raised place between behind earlier later again w v old new stop holds keeps same =
      let here = world_of p.tables (with_modules p.tables w earlier) between in
      let there = world_of p.tables (with_modules p.tables v later) behind in
      let facts = facts_of (plain_of p behind) in
      let f = stopped_at place here (plain_stop p.tables.texts p.tables.tuples between stop) in
      let state = failing_of p.tables old.calls f in
      let e : objects_of state ≡ plain_of p behind = ap objects_of same ∙ running_objects p new.calls again there in
      let covers : Covers facts (objects_of state) = subst (Covers facts) (sym e) (own_covered (plain_of p behind)) in
      kept_in p behind new again there state same (failing_fits between behind old.calls f holds.calls keeps (stop_known facts place here (plain_stop p.tables.texts p.tables.tuples between stop)) covers)
