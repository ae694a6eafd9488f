-- Calls that have begun, and calls behind a step.
use Rattle.std.proofs.Common.{◌≡◌, ℕ, List, [], ◌∷◌, map, Some, refl, sym, ap, ◌∙◌, subst}
use Rattle.std.proofs.lemmas.List.Elements.{All-nil}
use Rattle.state_calls.specs.mpy_base.World.{Heap, Objects, Later}
use Rattle.state_calls.specs.mpy_base.Val.{Val, PlainWorld}
use Rattle.state_calls.specs.arena_heap.declared.value.Value.{Value}
use Rattle.bc_progress.specs.bc_flow.Machine.{Stack}
use Rattle.state_calls.specs.bc_machine.Library.{Name, Module, Holds, Library, entry_in}
use Rattle.state_calls.specs.bc_machine.Machine.{start}
use Rattle.state_calls.specs.bc_machine.State as states
use Rattle.state_calls.specs.bc_machine.State.{State, Role, Main, Called, Imported, Frame}
use Rattle.state_calls.specs.bc_machine.Step.{step}
use Rattle.state_calls.specs.bc_progress.Slots.{Facts, ShowsAll, ShowsAllIn, none, more, bound, free, KeepIn}
use Rattle.state_calls.specs.bc_progress.Plans.{Plans, Follows}
use Rattle.state_calls.specs.bc_progress.Fits.{Stands, Below, StandsIn, BelowIn, FitsIn}
use Rattle.state_calls.specs.bc_progress.Known.{facts_of, objects_of, FitsKnown}
use Rattle.state_calls.proofs.bc_progress_lemmas.Knowing.{K}
use Rattle.state_calls.proofs.bc_progress_lemmas.Others.{fits_more, stands_more, below_more, objects_more}
use Rattle.state_calls.specs.prim_walks.Plain.{plain_object}
use Rattle.state_calls.specs.prim_modules.Registry.{Registry}
use Rattle.state_calls.specs.vm_frames.Calls.{Call, Calls}
use Rattle.state_calls.specs.vm_frames.Views.{slots_of, entries_of, starts_of, position_of, frame_of}
use Rattle.state_calls.specs.frame_moves.Shown.{view_of, running_of}
use Rattle.state_calls.specs.frame_moves.Outcomes.{world_of}
use Rattle.state_calls.specs.frame_exits.Ends.{with_modules}
use Rattle.state_calls.specs.vm_states.Means.{Program, Means}
use Rattle.state_calls.specs.vm_states.Running.{FitCalls, IsRunning}
use Rattle.state_exits.specs.Running.{stepped_with}
use Rattle.vm_kept.specs.Kept.{KeepCalls, HoldsKept}
use Rattle.vm_kept.proofs.Plain.{to_plain, from_plain}

module _ (p : Program) where
  -- calls that run, as the machine's state
  fits_of : (objects : Objects Value ℕ) (calls : List Call) (paid : ℕ) (w : PlainWorld) → KeepCalls p objects calls → FitsIn (facts_of objects) p.plans p.library (running_of p.tables paid calls w)
  fits_of objects [] paid w h = absurd h
  fits_of objects (c ∷ cs) paid w h = h

  keep_of : (objects : Objects Value ℕ) (calls : List Call) (paid : ℕ) (w : PlainWorld) → FitsIn (facts_of objects) p.plans p.library (running_of p.tables paid calls w) → KeepCalls p objects calls
  keep_of objects [] paid w h = absurd h
  keep_of objects (c ∷ cs) paid w h = h

  pub running_objects : (calls : List Call) (paid : ℕ) (w : PlainWorld) → objects_of (running_of p.tables paid calls w) ≡ w.heap.objects
  running_objects [] paid w = refl
  running_objects (c ∷ cs) paid w = refl

  -- the objects of a heap, as the machine has them
  abbrev pub plain_of : Heap Value ℕ → Objects Val (List ℕ)
  plain_of heap = map (plain_object p.tables.texts p.tables.tuples) heap.objects

  to_machine : (heap : Heap Value ℕ) (s : State) → FitsIn (facts_of heap.objects) p.plans p.library s → FitsIn (facts_of (plain_of heap)) p.plans p.library s
  to_machine heap s f = fits_more (facts_of heap.objects) (facts_of (plain_of heap)) (objects_more heap.objects (plain_of heap) (to_plain p.tables.texts p.tables.tuples heap.objects)) p.plans p.library s f

  from_machine : (heap : Heap Value ℕ) (s : State) → FitsIn (facts_of (plain_of heap)) p.plans p.library s → FitsIn (facts_of heap.objects) p.plans p.library s
  from_machine heap s f = fits_more (facts_of (plain_of heap)) (facts_of heap.objects) (objects_more (plain_of heap) heap.objects (from_plain p.tables.texts p.tables.tuples heap.objects)) p.plans p.library s f

  -- what calls keep, with objects that come later, as the machine has them
  pub first_later : (before behind : Objects Value ℕ) (c : Call) (cs : List Call) → Later before behind → KeepCalls p before (c ∷ cs) → KeepCalls p behind (c ∷ cs)
  first_later before behind c cs later h =
      let facts = facts_of before in
      let others = facts_of behind in
      let gives = objects_more before behind later.keeps in
      let frame = frame_of (view_of p.tables) c in
      (stands_more facts others gives p.plans p.library frame h.0, below_more facts others gives p.plans p.library frame.role (map (frame_of (view_of p.tables)) cs) h.1)

  -- calls that run as a state does that keeps what their objects have
  pub kept_in : (heap : Heap Value ℕ) (s : Calls) (again : ℕ) (w : PlainWorld) (state : State) → state ≡ running_of p.tables again s.calls w → FitsIn (facts_of (plain_of heap)) p.plans p.library state → HoldsKept p heap.objects s
  kept_in heap s again w state same f =
      let to = running_of p.tables again s.calls w in
      record { calls = keep_of heap.objects s.calls again w (from_machine heap to (subst (FitsIn (facts_of (plain_of heap)) p.plans p.library) same f)) }

  kept_as : (heap : Heap Value ℕ) (s : Calls) (again : ℕ) (w : PlainWorld) (state : State) → state ≡ running_of p.tables again s.calls (world_of p.tables w heap) → FitsKnown p.plans p.library state → HoldsKept p heap.objects s
  kept_as heap s again w state same f =
      let there = world_of p.tables w heap in
      let e : objects_of state ≡ plain_of heap = ap objects_of same ∙ running_objects s.calls again there in
      kept_in heap s again there state same (subst (λ (os : Objects Val (List ℕ)). FitsIn (facts_of os) p.plans p.library state) e f)

  -- the laws that are used
  abbrev pub StepLaw : Type 0
  StepLaw = (plans : Plans) (library : Library) (s : State) → Follows plans library → FitsIn (facts_of (objects_of (step library s))) plans library s → FitsKnown plans library (step library s)

  abbrev pub StartLaw : Type 0
  StartLaw = (plans : Plans) (library : Library) (name : Name) (m : Module) (w : PlainWorld) → Follows plans library → entry_in library name ≡ Some (Holds m) → FitsKnown plans library (start library name w)

  pub started : StartLaw → (name : Name) (m : Module) (before w : PlainWorld) (heap : Heap Value ℕ) (s : Calls) → Means p → entry_in p.library name ≡ Some (Holds m)
      → start p.library name before ≡ running_of p.tables 0 s.calls (world_of p.tables w heap) → HoldsKept p heap.objects s
  started law name m before w heap s means held same = kept_as heap s 0 w (start p.library name before) same (law p.plans p.library name m before means.follows held)

  pub stepped : StepLaw → (before behind : Heap Value ℕ) (earlier later : Registry) (paid again : ℕ) (w v : PlainWorld) (old new : Calls) → Means p → HoldsKept p before.objects old → Later before.objects behind.objects
      → stepped_with p paid old w before earlier ≡ running_of p.tables again new.calls (world_of p.tables (with_modules p.tables v later) behind) → HoldsKept p behind.objects new
  stepped law before behind earlier later paid again w v old new means holds keeps same =
      let here = world_of p.tables (with_modules p.tables w earlier) before in
      let there = world_of p.tables (with_modules p.tables v later) behind in
      let from = running_of p.tables paid old.calls here in
      let to = running_of p.tables again new.calls there in
      let old_fits = fits_of before.objects old.calls paid here holds.calls in
      let behind_fits = fits_more (facts_of before.objects) (facts_of behind.objects) (objects_more before.objects behind.objects keeps.keeps) p.plans p.library from old_fits in
      let e : objects_of (step p.library from) ≡ plain_of behind = ap objects_of same ∙ running_objects new.calls again there in
      let fits : FitsIn (facts_of (objects_of (step p.library from))) p.plans p.library from = subst (λ (os : Objects Val (List ℕ)). FitsIn (facts_of os) p.plans p.library from) (sym e) (to_machine behind from behind_fits) in
      kept_as behind new again (with_modules p.tables v later) (step p.library from) same (law p.plans p.library from means.follows fits)

-- one call without slots and entries
-- ==================================

no_slots : (facts : Facts) (st : List states.Slot) (stack : Stack) → st ≡ [] → ShowsAll st stack → ShowsAllIn facts st stack
no_slots facts st stack e none = none
no_slots facts st stack e (more h r) = absurd cc
no_slots facts st stack e (bound is r) = absurd cc
no_slots facts st stack e (free r) = absurd cc

no_frames : (facts : Facts) (plans : Plans) (library : Library) (role : Role) → Below plans library role [] → BelowIn facts plans library role []
no_frames facts plans library Main b = tt
no_frames facts plans library Called b = absurd b
no_frames facts plans library (Imported name m) b = absurd b

no_entries : (facts : Facts) (es : List states.Entry) → es ≡ [] → KeepIn facts es
no_entries facts es e = subst (KeepIn facts) (sym e) (All-nil (K facts))

nothing_kept : (facts : Facts) (plans : Plans) (library : Library) (frame : Frame) → frame.slots ≡ [] → frame.entries ≡ [] → Stands plans library frame → StandsIn facts plans library frame
nothing_kept facts plans library frame slots entries s = record {
  code = s.code;
  code_is = s.code_is;
  locals = s.locals;
  stack = s.stack;
  shows = no_slots facts frame.slots s.stack slots s.shows;
  kept = no_entries facts frame.entries entries;
  planned = s.planned;
}

pub begun : (p : Program) (objects : Objects Value ℕ) (s : Calls) (c : Call) → IsRunning p s → s.calls ≡ c ∷ [] → c.slots ≡ [] → c.entries ≡ [] → HoldsKept p objects s
begun p objects s c run are slots entries =
    let frame = frame_of (view_of p.tables) c in
    let facts = facts_of objects in
    let fits : FitCalls p (c ∷ []) = subst (FitCalls p) are run.fits in
    let keep : KeepCalls p objects (c ∷ []) = (
      nothing_kept facts p.plans p.library frame (ap (slots_of (view_of p.tables) (starts_of (view_of p.tables) c)) slots) (ap (entries_of (starts_of (view_of p.tables) c) (position_of (view_of p.tables) c)) entries) fits.0,
      no_frames facts p.plans p.library frame.role fits.1,
    ) in
    record { calls = subst (KeepCalls p objects) (sym are) keep }
