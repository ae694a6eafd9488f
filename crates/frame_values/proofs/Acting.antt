-- An instruction of the machine that is an effect, from what its primitive answers.
use Rattle.std.proofs.Common.{◌≡◌, ℕ, suc, ◌<◌, ◌≤◌, List, [], ◌∷◌, map, Bool, Result, Ok, Err, refl, sym, ap, ◌∙◌, arith}
use Rattle.std.proofs.lemmas.Bool.{lt-ltb, le-ltb}
use Rattle.frame_moves.specs.mpy_base.World.{Heap}
use Rattle.frame_moves.specs.mpy_base.Val.{PlainWorld}
use Rattle.prim_names.specs.arena_heap.declared.value.Value.{Value}
use Rattle.prim_names.specs.prim_types.py_primitives.Outcome as primitives
use Rattle.frame_moves.specs.py_effects.Effect.{Effect, Place, Fails, Thrown, Filled, failed, given_answer, fault_at}
use Rattle.prim_names.specs.prim_faults.declared.stop.Stop.{Stop}
use Rattle.prim_names.specs.prim_faults.Outcomes.{plain_stop}
use Rattle.frame_moves.specs.prim_raising.Places.{stopped_at}
use Rattle.frame_moves.specs.vm_frames.Calls.{Call, Calls, OfRunning, change_first, on_running}
use Rattle.frame_moves.specs.vm_frames.Views.{frame_of}
use Rattle.frame_moves.specs.bc_machine.Library.{Item, Library}
use Rattle.frame_moves.specs.bc_machine.State as states
use Rattle.frame_moves.specs.bc_machine.State.{State, Running, fail, on_given}
use Rattle.frame_moves.specs.bc_machine.Step as step
use Rattle.frame_moves.specs.bc_machine.Step.{item_step}
use Rattle.frame_moves.specs.Shown.{Tables, view_of, running_of, step_of}
use Rattle.frame_moves.specs.Outcomes.{world_of, stopping_of, Does}

-- what comes behind an answer: the next state, or the failure
abbrev pub ends : {A : Type 0} → Place → states.Frame → List states.Frame → PlainWorld → (A → PlainWorld → State) → Result A primitives.Stop → State
ends place frame frames w next (Ok a) = next a w
ends place frame frames w next (Err stop) = fail (stopped_at place w stop) frame frames

failing : {A : Type 0} (frame : states.Frame) (frames : List states.Frame) (next : A → PlainWorld → State) (f : Fails) → on_given (failed f) frame frames next ≡ fail f frame frames
failing frame frames next (Thrown x w) = refl
failing frame frames next (Filled room w) = refl

answered : {A : Type 0} (place : Place) (frame : states.Frame) (frames : List states.Frame) (w : PlainWorld) (next : A → PlainWorld → State) (answer : Result A primitives.Stop)
    → on_given (given_answer place w answer) frame frames next ≡ ends place frame frames w next answer
answered place frame frames w next (Ok a) = refl
answered place frame frames w next (Err (primitives.Full room)) = refl
answered place frame frames w next (Err (primitives.Raises fault)) = failing frame frames next (fault_at place w fault)

module _ (library : Library) (place : Place) (paid : ℕ) (frame : states.Frame) (frames : List states.Frame) (w : PlainWorld) {A : Type 0} (effect : Effect A) (next : A → PlainWorld → State) where
  -- the effect comes once its visits are paid
  paid_off : effect.visits ≤ paid → step.does library place paid frame frames w effect next ≡ ends place frame frames effect.world next effect.answer
  paid_off enough =
      ap (λ (b : Bool). step.paying library place paid frame frames w b effect next) (le-ltb paid effect.visits enough)
      ∙ answered place frame frames effect.world next effect.answer

  -- a step more is paid before
  unpaid : paid < effect.visits → step.does library place paid frame frames w effect next ≡ Running (suc paid) frame frames w
  unpaid before = ap (λ (b : Bool). step.paying library place paid frame frames w b effect next) (lt-ltb paid effect.visits before)

-- where this holds of the running call, the instruction is the effect, whose visits and whose world are these, and this
-- comes behind it
pub record Acts (t : Tables) (item : Item) (visits : ℕ) (before behind : Heap Value ℕ) (P : Call → Type 0) (A : Type 0) : Type 0 where
  pub effect : PlainWorld → Effect A
  pub next : Call → List states.Frame → A → PlainWorld → State
  pub is : (library : Library) (place : Place) (paid : ℕ) (c : Call) (frames : List states.Frame) (w : PlainWorld) → P c
      → item_step library place paid (frame_of (view_of t) c) frames (world_of t w before) item
      ≡ step.does library place paid (frame_of (view_of t) c) frames (world_of t w before) (effect (world_of t w before)) (next c frames)
  pub world : (w : PlainWorld) → world_of t w behind ≡ (effect (world_of t w before)).world
  pub visits_are : (w : PlainWorld) → (effect (world_of t w before)).visits ≡ visits

module _ (t : Tables) (item : Item) (visits : ℕ) (before behind : Heap Value ℕ) (P : Call → Type 0) (A : Type 0) (acts : Acts t item visits before behind P A) where
  paying : (library : Library) (place : Place) (paid : ℕ) (w : PlainWorld) (old : List Call) → OfRunning P old → paid < visits
      → step_of t library place paid old (world_of t w before) item ≡ running_of t (suc paid) old (world_of t w before)
  paying library place paid w [] p less = absurd p
  paying library place paid w (c ∷ cs) p less =
      let frame = frame_of (view_of t) c in
      let frames = map (frame_of (view_of t)) cs in
      let old = world_of t w before in
      acts.is library place paid c frames w p
      ∙ unpaid library place paid frame frames old (acts.effect old) (acts.next c frames) (omega (arith, less, acts.visits_are w))

  steps : (library : Library) (place : Place) (paid : ℕ) (w : PlainWorld) (c : Call) (frames : List states.Frame) (answer : Result A primitives.Stop) → P c → visits ≤ paid → (acts.effect (world_of t w before)).answer ≡ answer
      → item_step library place paid (frame_of (view_of t) c) frames (world_of t w before) item ≡ ends place (frame_of (view_of t) c) frames (world_of t w behind) (acts.next c frames) answer
  steps library place paid w c frames answer p enough e =
      let frame = frame_of (view_of t) c in
      let old = world_of t w before in
      acts.is library place paid c frames w p
      ∙ (paid_off library place paid frame frames old (acts.effect old) (acts.next c frames) (omega (arith, enough, acts.visits_are w))
      ∙ (ap (λ (z : PlainWorld). ends place frame frames z (acts.next c frames) (acts.effect old).answer) (sym (acts.world w))
      ∙ ap (ends place frame frames (world_of t w behind) (acts.next c frames)) e))

  going : (change : Call → Call) (a : A) → ((c : Call) (frames : List states.Frame) (w : PlainWorld) → P c → acts.next c frames a w ≡ Running 0 (frame_of (view_of t) (change c)) frames w)
      → (library : Library) (place : Place) (paid : ℕ) (w : PlainWorld) (old : List Call) → OfRunning P old → visits ≤ paid → (acts.effect (world_of t w before)).answer ≡ Ok a
      → step_of t library place paid old (world_of t w before) item ≡ running_of t 0 (change_first change old) (world_of t w behind)
  going change a on library place paid w [] p enough e = absurd p
  going change a on library place paid w (c ∷ cs) p enough e =
      let frames = map (frame_of (view_of t)) cs in
      steps library place paid w c frames (Ok a) p enough e ∙ on c frames (world_of t w behind) p

  -- it gives this, and the running call changes
  pub goes : (change : Call → Call) (a : A) → ((c : Call) (frames : List states.Frame) (w : PlainWorld) → P c → acts.next c frames a w ≡ Running 0 (frame_of (view_of t) (change c)) frames w)
      → ((w : PlainWorld) → (acts.effect (world_of t w before)).answer ≡ Ok a) → (old new : Calls) → OfRunning P old.calls → new ≡ on_running change old
      → Does t item visits before behind old.calls new.calls (Ok tt)
  goes change a on e old new p moved = record {
    pays = λ library place paid w less. paying library place paid w old.calls p less;
    steps = λ library place paid w enough. going change a on library place paid w old.calls p enough (e w) ∙ ap (λ (z : Calls). running_of t 0 z.calls (world_of t w behind)) (sym moved);
  }

  halting : (library : Library) (place : Place) (paid : ℕ) (w : PlainWorld) (stop : Stop) (old : List Call) → OfRunning P old → visits ≤ paid
      → (acts.effect (world_of t w before)).answer ≡ Err (plain_stop t.texts t.tuples behind stop)
      → step_of t library place paid old (world_of t w before) item ≡ stopping_of t place w behind old stop
  halting library place paid w stop [] p enough e = absurd p
  halting library place paid w stop (c ∷ cs) p enough e = steps library place paid w c (map (frame_of (view_of t)) cs) (Err (plain_stop t.texts t.tuples behind stop)) p enough e

  -- it stops so
  pub stops : (stop : Stop) → ((w : PlainWorld) → (acts.effect (world_of t w before)).answer ≡ Err (plain_stop t.texts t.tuples behind stop)) → (old new : List Call) → OfRunning P old
      → Does t item visits before behind old new (Err stop)
  stops stop e old new p = record {
    pays = λ library place paid w less. paying library place paid w old p less;
    steps = λ library place paid w enough. halting library place paid w stop old p enough (e w);
  }
