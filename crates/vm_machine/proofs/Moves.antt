-- What the calls hold behind a call that was made.
use Rattle.std.proofs.Common.{◌≡◌, ◌+◌, ℕ, List, [], ◌∷◌, map, Option, None, sym, ap, subst, ◌∙◌}
use Rattle.mpy_base.specs.World.{Heap, Objects, Later}
use Rattle.mpy_base.specs.Val.{PlainWorld}
use Rattle.state_steps.specs.prim_faults.arena_heap.declared.value.Value.{Value}
use Rattle.state_steps.specs.vm_frames.py_effects.Effect.{Place}
use Rattle.state_steps.specs.vm_frames.py_effects.Ends.{new_world}
use Rattle.state_steps.specs.vm_frames.bc_machine.State.{Running}
use Rattle.state_steps.specs.bc_progress.Known.{facts_of}
use Rattle.state_steps.proofs.bc_progress_lemmas.Others.{fits_more, objects_more}
use Rattle.vm_kept.specs.state_calls.bc_rows.declared.row.Row.{Row}
use Rattle.state_steps.specs.prim_faults.declared.stop.Stop.{Stop}
use Rattle.state_steps.specs.prim_modules.Registry.{Registry}
use Rattle.state_steps.specs.vm_frames.Calls.{Call, Calls, on_running}
use Rattle.state_steps.specs.vm_frames.Views.{frame_of}
use Rattle.vm_kept.specs.state_calls.frame_moves.Shown.{view_of, running_of}
use Rattle.vm_kept.specs.state_calls.frame_moves.Outcomes.{world_of, stopping_of}
use Rattle.vm_kept.specs.state_calls.frame_exits.declared.ends.End.{End}
use Rattle.vm_kept.specs.state_calls.frame_exits.Ends.{with_modules, state_of}
use Rattle.vm_kept.specs.state_calls.vm_fetching.declared.operations.CallOp.{CallOp}
use Rattle.vm_kept.specs.state_calls.vm_fetching.Instructions as fetched
use Rattle.vm_starting.specs.frame_calls.Operands.{operands_count}
use Rattle.vm_starting.specs.frame_calls.Putting.{with_value}
use Rattle.vm_starting.specs.vm_states.Means.{Program, Means}
use Rattle.vm_starting.specs.vm_states.Ready.{IsReady}
use Rattle.vm_kept.specs.state_calls.Taken.{callee_slots}
use Rattle.vm_kept.specs.Kept.{KeepCalls, HoldsKept}
use Rattle.state_steps.specs.Calling.{Went, steps, gives, raises, same}
use Rattle.vm_machine.proofs.Stepped.{StepLaw}

-- the laws that are used
abbrev pub RaisesLaw : Type 0
RaisesLaw =
    (p : Program) (place : Place) (between behind : Heap Value ℕ) (earlier later : Registry) (again : ℕ) (w v : PlainWorld) (old new : Calls) (stop : Stop) → Means p → HoldsKept p between.objects old → Later between.objects behind.objects
    → stopping_of p.tables place (with_modules p.tables w earlier) between old.calls stop ≡ running_of p.tables again new.calls (world_of p.tables (with_modules p.tables v later) behind) → HoldsKept p behind.objects new

abbrev pub GivesLaw : Type 0
GivesLaw =
    (p : Program) (s new : Calls) (row : Row) (op : CallOp) (number end size : ℕ) (v : Value) (before behind : Objects Value ℕ) → Means p → IsReady p s row (record { instruction = fetched.call op number; end = end })
    → size ≡ operands_count number + callee_slots op → HoldsKept p before s → Later before behind → new ≡ on_running (with_value end size v) s → HoldsKept p behind new

pub record Laws : Type 0 where
  pub step : StepLaw
  pub raise : RaisesLaw
  pub give : GivesLaw

-- where objects stay of their kinds
module _ (p : Program) (before behind : Objects Value ℕ) (later : Later before behind) where
  kept_calls : (calls : List Call) → KeepCalls p before calls → KeepCalls p behind calls
  kept_calls [] h = absurd h
  kept_calls (c ∷ cs) h =
      fits_more (facts_of before) (facts_of behind) (objects_more before behind later.keeps) p.plans p.library
      (Running 0 (frame_of (view_of p.tables) c) (map (frame_of (view_of p.tables)) cs) (new_world 0 0 [])) h

  kept_later : (s : Calls) → HoldsKept p before s → HoldsKept p behind s
  kept_later s h = record { calls = kept_calls s.calls h.calls }

module _ (laws : Laws) (p : Program) (means : Means p) (row : Row) (op : CallOp) (number next size : ℕ) (size_is : size ≡ operands_count number + callee_slots op)
    (before behind : Heap Value ℕ) (earlier later : Registry) (old new : Calls) (ready : IsReady p old row (record { instruction = fetched.call op number; end = next }))
    (holds : HoldsKept p before.objects old) (objects : Later before.objects behind.objects) where
  pub went_kept : (end : Option End) → Went p ready.place next size before behind earlier later old new end → end ≡ None → HoldsKept p behind.objects new
  went_kept end (steps {end = e} paid w v is) none =
      laws.step p before behind earlier later paid 0 w v old new means holds objects
      (is ∙ ap (λ (o : Option End). state_of p.tables o new.calls (world_of p.tables (with_modules p.tables v later) behind)) none)
  went_kept end (gives v moved) none = laws.give p old new row op number next size v before.objects behind.objects means ready size_is holds objects moved
  went_kept end (raises {end = e} stop between w v first second is) none =
      laws.raise p ready.place between behind earlier later 0 w v old new stop means (kept_later p before.objects between.objects first old holds) second
      (is ∙ ap (λ (o : Option End). state_of p.tables o new.calls (world_of p.tables (with_modules p.tables v later) behind)) none)
  went_kept end (same moved heap) none =
      subst (λ (s : Calls). HoldsKept p behind.objects s) (sym moved)
      (subst (λ (h : Heap Value ℕ). HoldsKept p h.objects old) (sym heap) holds)
