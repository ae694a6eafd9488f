-- An instruction of the machine that is an effect, from what its primitive answers.
use Rattle.std.proofs.Common.{◌≡◌, ℕ, suc, ◌<◌, ◌≤◌, List, [], ◌∷◌, map, drop, Bool, Option, Result, Ok, Err, refl, sym, ap, ◌∙◌, subst, arith}
use Rattle.std.proofs.lemmas.Bool.{lt-ltb, le-ltb}
use Rattle.mpy_base.specs.World.{Heap}
use Rattle.mpy_base.specs.Val.{Val, PlainWorld}
use Rattle.frame_moves.specs.arena_heap.declared.value.Value.{Value}
use Rattle.frame_moves.specs.arena_heap.declared.value.StrNo.{StrNo}
use Rattle.frame_moves.specs.arena_heap.declared.value.ConstNo.{ConstNo}
use Rattle.frame_moves.specs.py_primitives.Outcome as primitives
use Rattle.frame_moves.specs.py_effects.Effect.{Effect, Place, Fails, Thrown, Filled, failed, given_answer, fault_at}
use Rattle.frame_moves.specs.prim_faults.declared.stop.Stop.{Stop}
use Rattle.frame_moves.specs.prim_faults.declared.stop.Stop.TheVariants as stops
use Rattle.frame_moves.specs.prim_faults.Outcomes.{plain_answer, IsKnownAnswer}
use Rattle.frame_moves.specs.prim_raising.Places.{stopped_at}
use Rattle.frame_moves.specs.vm_frames.declared.slot.Slot.TheVariants as slots
use Rattle.frame_moves.specs.vm_frames.Calls.{Call, Calls, OfRunning, change_first}
use Rattle.frame_moves.specs.bc_labels.Positions.{position_in}
use Rattle.frame_moves.specs.vm_frames.Views.{slots_of, starts_of, position_of, frame_of}
use Rattle.frame_moves.specs.bc_machine.Library.{Item, Library}
use Rattle.frame_moves.specs.bc_machine.State as states
use Rattle.frame_moves.specs.bc_machine.State.{State, Running, fail, on_given, go}
use Rattle.frame_moves.specs.bc_machine.Step as step
use Rattle.frame_moves.specs.bc_machine.Step.{item_step}
use Rattle.frame_moves.specs.Shown.{Tables, view_of}
use Rattle.frame_moves.specs.Outcomes.{world_of, outcome_of, Does}
use Rattle.frame_moves.proofs.Stepping.{goes_to}
use Rattle.frame_calls.specs.Coming.{Comes, ComesTo}
use Rattle.frame_calls.specs.Putting.{with_value, put_in, done_of, Puts, IsKnownStop}

-- what comes behind an answer: the next state, or the failure
abbrev pub ends : {A : Type 0} → Place → states.Frame → List states.Frame → PlainWorld → (A → PlainWorld → State) → Result A primitives.Stop → State
ends place frame frames w next (Ok a) = next a w
ends place frame frames w next (Err stop) = fail (stopped_at place w stop) frame frames

failing : {A : Type 0} (frame : states.Frame) (frames : List states.Frame) (next : A → PlainWorld → State) (f : Fails) → on_given (failed f) frame frames next ≡ fail f frame frames
failing frame frames next (Thrown x w) = refl
failing frame frames next (Filled room w) = refl

answered : {A : Type 0} (place : Place) (frame : states.Frame) (frames : List states.Frame) (w : PlainWorld) (next : A → PlainWorld → State) (answer : Result A primitives.Stop)
    → on_given (given_answer place w answer) frame frames next ≡ ends place frame frames w next answer
answered place frame frames w next (Ok a) = refl
answered place frame frames w next (Err (primitives.Full room)) = refl
answered place frame frames w next (Err (primitives.Raises fault)) = failing frame frames next (fault_at place w fault)

module _ (library : Library) (place : Place) (paid : ℕ) (frame : states.Frame) (frames : List states.Frame) (w : PlainWorld) {A : Type 0} (effect : Effect A) (next : A → PlainWorld → State) where
  -- the effect comes once its visits are paid
  pub paid_off : effect.visits ≤ paid → step.does library place paid frame frames w effect next ≡ ends place frame frames effect.world next effect.answer
  paid_off enough =
      ap (λ (b : Bool). step.paying library place paid frame frames w b effect next) (le-ltb paid effect.visits enough)
      ∙ answered place frame frames effect.world next effect.answer

  -- a step more is paid before
  unpaid : paid < effect.visits → step.does library place paid frame frames w effect next ≡ Running (suc paid) frame frames w
  unpaid before = ap (λ (b : Bool). step.paying library place paid frame frames w b effect next) (lt-ltb paid effect.visits before)

module _ (t : Tables) (library : Library) (item : Item) (visits : ℕ) (w : PlainWorld) (c : Call) (cs : List Call) (outcome : Place → State) where
  -- an instruction that is an effect comes to what is behind its answer
  pub comes : {A : Type 0} (effect : Effect A) (next : Place → A → PlainWorld → State)
      → ((place : Place) (paid : ℕ) → item_step library place paid (frame_of (view_of t) c) (map (frame_of (view_of t)) cs) w item ≡ step.does library place paid (frame_of (view_of t) c) (map (frame_of (view_of t)) cs) w effect (next place))
      → effect.visits ≡ visits
      → ((place : Place) → ends place (frame_of (view_of t) c) (map (frame_of (view_of t)) cs) effect.world (next place) effect.answer ≡ outcome place)
      → Comes t library item visits w (c ∷ cs) outcome
  comes effect next is v e =
      let frame = frame_of (view_of t) c in
      let frames = map (frame_of (view_of t)) cs in
      record {
        pays = λ place paid less. is place paid ∙ unpaid library place paid frame frames w effect (next place) (omega (arith, less, v));
        steps = λ place paid enough. is place paid ∙ (paid_off library place paid frame frames w effect (next place) (omega (arith, enough, v)) ∙ e place);
      }

-- values that are put
-- ===================

-- the calls behind what is given
abbrev pub put_calls : {E : Type 0} → (end taken : ℕ) → Result Value E → List Call → List Call
put_calls end taken (Ok v) cs = change_first (with_value end taken v) cs
put_calls end taken (Err stop) cs = cs

pub put_calls_are : {E : Type 0} (end taken : ℕ) (given : Result Value E) (s : Calls) → (put_in end taken given s).calls ≡ put_calls end taken given s.calls
put_calls_are end taken (Ok v) s = refl
put_calls_are end taken (Err stop) s = refl

module _ (t : Tables) (place : Place) (c : Call) (cs : List Call) (w : PlainWorld) (end taken : ℕ) (behind : Heap Value ℕ) (is_next : position_in (starts_of (view_of t) c) end ≡ suc (position_of (view_of t) c)) where
  -- what comes behind an answer whose value is put
  pub put_ends : (given : Result Value Stop)
      → ends place (frame_of (view_of t) c) (map (frame_of (view_of t)) cs) (world_of t w behind)
      (λ v w1. go (suc (position_of (view_of t) c)) (states.Value v ∷ slots_of (view_of t) (starts_of (view_of t) c) (drop taken c.slots)) (frame_of (view_of t) c).entries (frame_of (view_of t) c) (map (frame_of (view_of t)) cs) w1)
      (plain_answer t.texts t.tuples behind given)
      ≡ outcome_of t place w behind (c ∷ cs) (put_calls end taken given (c ∷ cs)) (done_of given)
  put_ends (Ok v) = goes_to (view_of t) c (suc (position_of (view_of t) c)) end (slots.Value v ∷ drop taken c.slots) (map (frame_of (view_of t)) cs) (world_of t w behind) is_next
  put_ends (Err stop) = refl

-- where this holds of the running call, the instruction gives what the effect gives onto the slots that are left
abbrev pub Gives : Tables → Library → Item → (taken : ℕ) → (Call → Type 0) → PlainWorld → Effect Val → Type 0
Gives t library item taken P w effect =
    (place : Place) (paid : ℕ) (c : Call) (frames : List states.Frame) → P c
    → item_step library place paid (frame_of (view_of t) c) frames w item ≡ step.gives library place paid (frame_of (view_of t) c) frames w (slots_of (view_of t) (starts_of (view_of t) c) (drop taken c.slots)) effect

-- the same of these calls
abbrev pub GivesIn : Tables → Library → Item → (taken : ℕ) → List Call → PlainWorld → Effect Val → Type 0
GivesIn t library item taken [] w effect = Unit {0}
GivesIn t library item taken (c ∷ cs) w effect =
    (place : Place) (paid : ℕ)
    → item_step library place paid (frame_of (view_of t) c) (map (frame_of (view_of t)) cs) w item ≡ step.gives library place paid (frame_of (view_of t) c) (map (frame_of (view_of t)) cs) w (slots_of (view_of t) (starts_of (view_of t) c) (drop taken c.slots)) effect

pub gives_in : (t : Tables) (library : Library) (item : Item) (taken : ℕ) (P : Call → Type 0) (w : PlainWorld) (effect : Effect Val) (cs : List Call) → Gives t library item taken P w effect → OfRunning P cs → GivesIn t library item taken cs w effect
gives_in t library item taken P w effect [] is p = tt
gives_in t library item taken P w effect (c ∷ cs) is p = λ place paid. is place paid c (map (frame_of (view_of t)) cs) p

-- a primitive's call gives this, as the effect does, which leaves this world
pub record Answers (t : Tables) (after : PlainWorld) (behind : Heap Value ℕ) (given : Result Value Stop) (visits : ℕ) (effect : Effect Val) : Type 0 where
  pub answer : plain_answer t.texts t.tuples behind given ≡ effect.answer
  pub world : world_of t after behind ≡ effect.world
  pub visits_are : effect.visits ≡ visits

module _ (t : Tables) (library : Library) (item : Item) (visits : ℕ) (behind : Heap Value ℕ) (end taken : ℕ) (given : Result Value Stop) where
  abbrev Next : Call → Type 0
  Next c = position_in (starts_of (view_of t) c) end ≡ suc (position_of (view_of t) c)

  -- in this world it comes to the calls that the value is put in
  pub puts_list : (w after : PlainWorld) (effect : Effect Val) → Answers t after behind given visits effect → (cs : List Call) → GivesIn t library item taken cs w effect → OfRunning Next cs
      → Comes t library item visits w cs (λ place. outcome_of t place after behind cs (put_calls end taken given cs) (done_of given))
  puts_list w after effect answers [] is n = absurd n
  puts_list w after effect answers (c ∷ cs) is n =
      let frames = map (frame_of (view_of t)) cs in
      let next : Val → PlainWorld → State = λ v w1. go (suc (position_of (view_of t) c)) (states.Value v ∷ slots_of (view_of t) (starts_of (view_of t) c) (drop taken c.slots)) (frame_of (view_of t) c).entries (frame_of (view_of t) c) frames w1 in
      comes t library item visits w c cs (λ place. outcome_of t place after behind (c ∷ cs) (put_calls end taken given (c ∷ cs)) (done_of given)) effect (λ place. next) is answers.visits_are
      (λ place.
      ap (λ (z : PlainWorld). ends place (frame_of (view_of t) c) frames z next effect.answer) (sym answers.world)
      ∙ (ap (λ (z : Result Val primitives.Stop). ends place (frame_of (view_of t) c) frames (world_of t after behind) next z) (sym answers.answer)
      ∙ put_ends t place c cs after end taken behind n given))

  -- in each world
  pub puts_come : (before : Heap Value ℕ) (effect : PlainWorld → Effect Val) (old new : Calls) (result : Result (Unit {0}) Stop) → ((w : PlainWorld) → GivesIn t library item taken old.calls (world_of t w before) (effect (world_of t w before)))
      → ((w : PlainWorld) → Answers t w behind given visits (effect (world_of t w before))) → OfRunning Next old.calls → new ≡ put_in end taken given old → result ≡ done_of given
      → ComesTo t library item visits before behind old.calls new.calls result
  puts_come before effect old new result is answers n e d w =
      let calls : put_calls end taken given old.calls ≡ new.calls = sym (ap (λ (z : Calls). z.calls) e ∙ put_calls_are end taken given old) in
      let W = world_of t w before in
      let O : List Call → Result (Unit {0}) Stop → Place → State = λ cs r place. outcome_of t place w behind old.calls cs r in
      subst (λ (r : Result (Unit {0}) Stop). Comes t library item visits W old.calls (O new.calls r)) (sym d)
      (subst (λ (cs : List Call). Comes t library item visits W old.calls (O cs (done_of given))) calls (puts_list W w (effect W) (answers w) old.calls (is w) n))

-- in all libraries
pub does_all : (t : Tables) (item : Item) (visits : ℕ) (before behind : Heap Value ℕ) (old new : List Call) (result : Result (Unit {0}) Stop)
    → ((library : Library) → ComesTo t library item visits before behind old new result) → Does t item visits before behind old new result
does_all t item visits before behind old new result h = record {
  pays = λ library place paid w less. (h library w).pays place paid less;
  steps = λ library place paid w enough. (h library w).steps place paid enough;
}

-- what is known
-- =============

module _ (texts : StrNo → Option (List ℕ)) (tuples : ConstNo → Option (List Value)) (behind : Heap Value ℕ) where
  pub put_moved : (end taken : ℕ) (old new : Calls) (result : Result (Unit {0}) Stop) (given : Result Value Stop) → IsKnownAnswer texts tuples behind.objects given
      → new ≡ put_in end taken given old → result ≡ done_of given → Puts texts tuples behind.objects end taken old new result
  put_moved end taken old new result (Ok v) known e d = subst (Puts texts tuples behind.objects end taken old new) (sym d) (v, known, e)
  put_moved end taken old new result (Err stop) known e d = subst (Puts texts tuples behind.objects end taken old new) (sym d) e

  pub known_stop : (stop : Stop) → IsKnownAnswer texts tuples behind.objects (Err stop) → IsKnownStop texts tuples behind.objects (Err stop)
  known_stop (stops.Raises fault) known = known
  known_stop (stops.Full room) known = tt

  known_done : (given : Result Value Stop) → IsKnownAnswer texts tuples behind.objects given → IsKnownStop texts tuples behind.objects (done_of given)
  known_done (Ok v) known = tt
  known_done (Err stop) known = known_stop stop known

  pub stop_known : (result : Result (Unit {0}) Stop) (given : Result Value Stop) → IsKnownAnswer texts tuples behind.objects given → result ≡ done_of given → IsKnownStop texts tuples behind.objects result
  stop_known result given known d = subst (IsKnownStop texts tuples behind.objects) (sym d) (known_done given known)
