-- Returns, where a run comes to.
use Rattle.std.proofs.Common.{◌≡◌, ℕ, List, [], ◌∷◌, length, Option, Some, None, All, sym, ap, ◌∙◌, subst, arith}
use Rattle.std.specs.Prelude.{IfSome}
use Rattle.std.proofs.lemmas.List.Elements.{All-weaker}
use Rattle.vm_states.specs.mpy_base.World.{Objects, Heap}
use Rattle.vm_states.specs.mpy_base.Val.{PlainWorld}
use Rattle.prim_faults.specs.arena_heap.declared.value.Value.{Value}
use Rattle.prim_faults.specs.arena_heap.declared.value.StrNo.{StrNo}
use Rattle.prim_faults.specs.arena_heap.declared.value.ConstNo.{ConstNo}
use Rattle.bc_progress.specs.py_effects.Ends.{new_world}
use Rattle.vm_states.specs.bc_machine.Library.{Library}
use Rattle.vm_states.specs.bc_machine.State.{State}
use Rattle.vm_states.specs.bc_machine.Step.{step}
use Rattle.vm_states.specs.bc_progress.Plans.{Plans, Follows}
use Rattle.vm_states.specs.bc_progress.Fits.{Fits}
use Rattle.vm_states.specs.bc_rows.declared.row.Row.{Row}
use Rattle.vm_states.specs.prim_modules.Registry.{Registry, plain_modules}
use Rattle.vm_states.specs.vm_frames.Calls.{Call, Calls}
use Rattle.vm_states.specs.vm_frames.Placed.{IsPlaced}
use Rattle.vm_states.specs.frame_moves.Shown.{view_of, running_of, step_of}
use Rattle.vm_states.specs.frame_moves.Outcomes.{world_of}
use Rattle.vm_states.specs.frame_exits.declared.names.ModuleName.{ModuleName}
use Rattle.vm_states.specs.frame_exits.declared.ends.End.{End}
use Rattle.vm_states.specs.frame_exits.declared.ends.After.{After}
use Rattle.vm_states.specs.frame_exits.declared.ends.After.TheVariants as afters
use Rattle.vm_states.specs.frame_exits.Ends.{with_modules, state_of}
use Rattle.vm_states.specs.frame_exits.Known.{IsKnownCall, IsKnownAfter, Keeps}
use Rattle.vm_states.specs.frame_exits.Left.{after_of}
use Rattle.vm_states.specs.vm_fetching.declared.instruction.Fetched.{Fetched}
use Rattle.vm_states.specs.Means.{Program, Means}
use Rattle.vm_states.specs.Ready.{IsReady, item_at}
use Rattle.vm_states.specs.Running.{FitCalls, HasRooms, IsOfModule}
use Rattle.vm_states.specs.State.{IsState}
use Rattle.vm_states.specs.Acting.{Tells}
use Rattle.state_exits.specs.Own.{AreOwn}
use Rattle.state_exits.specs.Modules.{registered_names, AreNames, AreRegistered}
use Rattle.state_exits.specs.Running.{stepped_with, RunsOn}
use Rattle.state_exits.specs.Waiting.{IsSettling, Settles}
use Rattle.state_exits.proofs.Sounds.{SoundLaw}
use Rattle.state_exits.proofs.Tellings.{into}
use Rattle.state_exits.proofs.Ends.{Went, IsKnownEnd, registered_behind, is_run, keeps_here}

abbrev pub Progress : Type 0
Progress = (plans : Plans) (library : Library) (s : State) → Follows plans library → Fits plans library s → Fits plans library (step library s)

pub same_rooms : (p : Program) (s new : Calls) → new ≡ record s { calls = new.calls } → HasRooms p s → HasRooms p new
same_rooms p s new e h =
    let slots : new.slot_room ≡ s.slot_room = ap (λ (z : Calls). z.slot_room) e in
    let entries : new.entry_room ≡ s.entry_room = ap (λ (z : Calls). z.entry_room) e in
    record {
      slots = λ name number code is. let r = h.slots name number code is in omega (arith, r, slots);
      entries = λ name number code is. let r = h.entries name number code is in omega (arith, r, entries);
    }

pub same_calls : (old new : Calls) (calls : List Call) → new ≡ record old { calls = calls } → new ≡ record old { calls = new.calls }
same_calls old new calls e = e ∙ ap (λ (z : List Call). record old { calls = z }) (sym (ap (λ (z : Calls). z.calls) e))

pub same_through : (old mid new : Calls) → mid ≡ record old { calls = mid.calls } → new ≡ record mid { calls = new.calls } → new ≡ record old { calls = new.calls }
same_through old mid new e moved = moved ∙ ap (λ (z : Calls). record z { calls = new.calls }) e

shown_fits : (p : Program) (calls : List Call) (paid : ℕ) (w : PlainWorld) → FitCalls p calls → Fits p.plans p.library (running_of p.tables paid calls w)
shown_fits p [] paid w h = absurd h
shown_fits p (c ∷ cs) paid w h = h

ended_by : (texts : StrNo → Option (List ℕ)) (tuples : ConstNo → Option (List Value)) (objects : Objects Value ℕ) (after : After) (end : Option End) → IfSome end (λ e. after ≡ afters.Ends e) → IsKnownAfter texts tuples objects after
    → IfSome end (IsKnownEnd texts tuples objects)
ended_by texts tuples objects after None is h = tt
ended_by texts tuples objects after (Some e) is h = subst (IsKnownAfter texts tuples objects) is h

module _ (went : Went) (sounds : SoundLaw) (progress : Progress) (texts : StrNo → Option (List ℕ)) (tuples : ConstNo → Option (List Value)) (names : List ModuleName)
    (p : Program) (means : Means p) (tells : Tells texts tuples p) (named : AreNames p names)
    (before behind : Heap Value ℕ) (earlier later : Registry) (old mid : Calls) (after : After)
    (state : IsState p before.objects old) (registered : AreRegistered p before earlier) (row : Row) (fetched : Fetched) (r : IsReady p old row fetched)
    (lower : (paid : ℕ) (w : PlainWorld) → step_of p.tables p.library r.place paid old.calls (world_of p.tables (with_modules p.tables w earlier) before) (item_at p r.first fetched)
    ≡ after_of p.tables after mid.calls (world_of p.tables (with_modules p.tables w later) behind))
    (placed : All (IsPlaced (view_of p.tables)) old.calls → All (IsPlaced (view_of p.tables)) mid.calls)
    (keeps : Keeps texts tuples (length names) before.objects behind.objects old.calls mid.calls) (same : mid ≡ record old { calls = mid.calls }) where
  abbrev None0 : PlainWorld
  None0 = new_world 0 0 []

  abbrev W : PlainWorld → PlainWorld
  W w = world_of p.tables (with_modules p.tables w earlier) before

  abbrev V : PlainWorld → PlainWorld
  V w = world_of p.tables (with_modules p.tables w later) behind

  comes : (paid : ℕ) (w : PlainWorld) → stepped_with p paid old w before earlier ≡ after_of p.tables after mid.calls (V w)
  comes paid w = r.steps paid (W w) ∙ lower paid w

  here : Keeps p.tables.texts p.tables.tuples (length p.shelf.modules) before.objects behind.objects old.calls mid.calls
  here = keeps_here texts tuples p tells names named before.objects behind.objects old.calls mid.calls keeps

  fits_after : Fits p.plans p.library (after_of p.tables after mid.calls (V None0))
  fits_after = subst (Fits p.plans p.library) (comes 0 None0) (progress p.plans p.library (running_of p.tables 0 old.calls (W None0)) means.follows (shown_fits p old.calls 0 (W None0) state.running.fits))

  waits_by : (a : After) → Fits p.plans p.library (after_of p.tables a mid.calls (V None0)) → IsSettling p a mid
  waits_by afters.Runs h = tt
  waits_by (afters.Gives v) h = record {
    world = V None0;
    fits = h;
    placed = placed state.running.placed;
    of_modules = All-weaker (IsKnownCall p.tables.texts p.tables.tuples (length p.shelf.modules) behind.objects) (IsOfModule p) (λ c k. k.of_module) mid.calls (here.known state.known);
    rooms = same_rooms p old mid same state.running.rooms;
  }
  waits_by (afters.Ends end) h = tt

  -- the call that goes on waits
  pub waits_so : IsSettling p after mid
  waits_so = waits_by after fits_after

  -- and behind it
  pub settled_so : (new : Calls) (end : Option End) → Settles p after mid new end → new ≡ record mid { calls = new.calls }
      → ((x : StrNo → Option (List ℕ)) (y : ConstNo → Option (List Value)) (modules : ℕ) (objects : Objects Value ℕ) → IsKnownAfter x y objects after → All (IsKnownCall x y modules objects) mid.calls → All (IsKnownCall x y modules objects) new.calls)
      → IfSome end (λ e. after ≡ afters.Ends e) → IsKnownAfter texts tuples behind.objects after
      → AreOwn (registered_names p) (plain_modules p.tables.texts p.tables.tuples later) → later.room ≡ earlier.room → RunsOn p before behind earlier later old new end
  settled_so new end settles moved known ended after_known own room =
      let steps : (paid : ℕ) (w : PlainWorld) → stepped_with p paid old w before earlier ≡ state_of p.tables end new.calls (V w) = λ paid w. comes paid w ∙ settles.steps (V w) in
      let after_here : IsKnownAfter p.tables.texts p.tables.tuples behind.objects after = into texts tuples p tells (λ x y. IsKnownAfter x y behind.objects after) after_known in
      record {
        steps = steps;
        run = is_run went sounds p means before behind earlier later old new end state registered 0 None0 None0 (steps 0 None0)
            (known p.tables.texts p.tables.tuples (length p.shelf.modules) behind.objects after_here (here.known state.known)) here.all_told
            (settles.placed (placed state.running.placed)) (moved ∙ ap (λ (z : Calls). record z { calls = new.calls }) same)
            (registered_behind went sounds p means before behind earlier later old new end state registered 0 None0 None0 (steps 0 None0) own room)
            (ended_by p.tables.texts p.tables.tuples behind.objects after end ended after_here);
        objects = here.later;
      }
