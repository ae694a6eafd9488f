-- From what a primitive gives to what the instruction does, where its value is put or not.
use Rattle.std.proofs.Common.{◌≡◌, ℕ, suc, List, ◌∷◌, drop, Option, Result, Ok, Err, sym, ap, subst}
use Rattle.frame_moves.specs.mpy_base.World.{Heap, Later}
use Rattle.frame_moves.specs.mpy_base.Val.{Val, PlainWorld}
use Rattle.prim_names.specs.arena_heap.declared.value.Value.{Value}
use Rattle.prim_names.specs.arena_heap.declared.value.StrNo.{StrNo}
use Rattle.prim_names.specs.arena_heap.declared.value.ConstNo.{ConstNo}
use Rattle.prim_names.specs.arena_objects.Keys.{AllTold}
use Rattle.prim_names.specs.prim_types.py_values.Shown.{PlainHeap}
use Rattle.prim_names.specs.prim_types.py_primitives.Outcome.{Outcome}
use Rattle.frame_moves.specs.py_effects.Effect.{Effect, on_heap, Place}
use Rattle.prim_names.specs.prim_walks.Plain.{plain, plain_heap}
use Rattle.prim_names.specs.prim_faults.declared.stop.Stop.{Stop}
use Rattle.prim_names.specs.prim_faults.Outcomes.{plain_answer, IsKnownAnswer, IsOutcome}
use Rattle.prim_names.specs.prim_faults.Sights.{Sight, sight_of as sight, world_over}
use Rattle.frame_moves.specs.prim_raising.Worlds.{HasEffect}
use Rattle.frame_moves.specs.vm_frames.declared.slot.Slot.TheVariants as slots
use Rattle.frame_moves.specs.vm_frames.Calls.{Call, Calls, OfRunning}
use Rattle.frame_moves.specs.bc_labels.Positions.{position_in}
use Rattle.frame_moves.specs.vm_frames.Views.{slots_of, starts_of, position_of, frame_of}
use Rattle.frame_moves.specs.bc_machine.Library.{Item, Library}
use Rattle.frame_moves.specs.bc_machine.State as states
use Rattle.frame_moves.specs.bc_machine.State.{State, Running, go}
use Rattle.frame_moves.specs.bc_machine.Step as step
use Rattle.frame_moves.specs.bc_machine.Step.{item_step}
use Rattle.frame_moves.specs.Shown.{Tables, view_of}
use Rattle.frame_moves.specs.Outcomes.{Does}
use Rattle.frame_moves.proofs.Stepping.{both, goes_to}
use Rattle.frame_values.specs.Slots.{with_value, without, Puts, Changes}
use Rattle.frame_values.specs.Settled.{Settles}
use Rattle.frame_values.specs.Effects.{Layout, tables_of, Steps, IsKnownStop, Leaves}
use Rattle.frame_values.proofs.Acting.{Acts, goes, stops}

module _ (texts : StrNo → Option (List ℕ)) (tuples : ConstNo → Option (List Value)) where
  -- a primitive's call gives this, as the effect does
  pub record Answers (before behind : Heap Value ℕ) (given : Result Value Stop) (visits : ℕ) (effect : PlainWorld → Effect Val) : Type 0 where
    pub answer : (w : PlainWorld) → (effect (world_over texts tuples w before)).answer ≡ plain_answer texts tuples behind given
    pub world : (w : PlainWorld) → world_over texts tuples w behind ≡ (effect (world_over texts tuples w before)).world
    pub visits_are : (w : PlainWorld) → (effect (world_over texts tuples w before)).visits ≡ visits
    pub known : IsKnownAnswer texts tuples behind.objects given
    pub later : Later before.objects behind.objects
    pub all_told : AllTold texts tuples behind.objects

  pub of_effect : (before behind : Heap Value ℕ) (given : Result Value Stop) (effect : PlainWorld → Sight → Effect Val) → HasEffect texts tuples before behind given effect
      → Answers before behind given 0 (λ w. effect w (sight texts tuples))
  of_effect before behind given effect h =
      record { answer = λ w. sym (h.answer w); world = h.world; visits_are = h.visits; known = h.known; later = h.later; all_told = h.all_told }

  pub of_outcome : (before behind : Heap Value ℕ) (given : Result Value Stop) (visits : ℕ) (primitive : PlainHeap → Outcome Val) → IsOutcome texts tuples before behind given (primitive (plain_heap texts tuples before))
      → (primitive (plain_heap texts tuples before)).visits ≡ visits → Answers before behind given visits (λ w. on_heap w (primitive w.heap))
  of_outcome before behind given visits primitive h e =
      record { answer = λ w. sym h.answer; world = λ w. ap (λ (z : PlainHeap). record w { heap = z }) h.heap; visits_are = λ w. e; known = h.known; later = h.later; all_told = h.all_told }

  module _ (change : Value → Call → Call) (old new : Calls) (result : Result (Unit {0}) Stop) where
    stop_known : (heap : Heap Value ℕ) (given : Result Value Stop) → IsKnownAnswer texts tuples heap.objects given → Settles change given old new result → IsKnownStop texts tuples heap.objects result
    stop_known heap (Ok v) known settled = subst (IsKnownStop texts tuples heap.objects) (sym settled.0) tt
    stop_known heap (Err stop) known settled = subst (IsKnownStop texts tuples heap.objects) (sym settled.0) known

    value_put : (heap : Heap Value ℕ) (given : Result Value Stop) → IsKnownAnswer texts tuples heap.objects given → Settles change given old new result → Puts texts tuples heap.objects change old new result
    value_put heap (Ok v) known settled = subst (Puts texts tuples heap.objects change old new) (sym settled.0) (v, known, settled.1)
    value_put heap (Err stop) known settled = subst (Puts texts tuples heap.objects change old new) (sym settled.0) settled.1

    module _ (before behind : Heap Value ℕ) (given : Result Value Stop) (visits : ℕ) (effect : PlainWorld → Effect Val) (answers : Answers before behind given visits effect) (settled : Settles change given old new result) where
      -- the clauses of an instruction that puts a known value, or stops
      pub moved : Puts texts tuples behind.objects change old new result
      moved = value_put behind given answers.known settled

      pub leaves : Leaves texts tuples before behind result
      leaves = record { later = answers.later; all_told = answers.all_told; stop = stop_known behind given answers.known settled }

    -- where this holds of the running call, the instruction is the effect, and this comes behind it
    module _ (layout : Layout) (item : Item) (visits : ℕ) (before behind : Heap Value ℕ) (P : Call → Type 0) (effect : PlainWorld → Effect Val) (next : Call → List states.Frame → Val → PlainWorld → State)
        (is : (library : Library) (place : Place) (paid : ℕ) (c : Call) (frames : List states.Frame) (w : PlainWorld) → P c
        → (let frame = frame_of (view_of (tables_of texts tuples layout)) c in let world = world_over texts tuples w before in
        item_step library place paid frame frames world item ≡ step.does library place paid frame frames world (effect world) (next c frames)))
        (on : (v : Value) (c : Call) (frames : List states.Frame) (w : PlainWorld) → P c → next c frames (plain texts tuples v) w ≡ Running 0 (frame_of (view_of (tables_of texts tuples layout)) (change v c)) frames w) where
      abbrev T : Tables
      T = tables_of texts tuples layout

      acts : (given : Result Value Stop) → Answers before behind given visits effect → Acts T item visits before behind P Val
      acts given answers = record { effect = effect; next = next; is = is; world = answers.world; visits_are = answers.visits_are }

      pub does : (given : Result Value Stop) → Answers before behind given visits effect → OfRunning P old.calls → Settles change given old new result → Does T item visits before behind old.calls new.calls result
      unfolding acts
      does (Ok v) answers p settled =
          subst (Does T item visits before behind old.calls new.calls) (sym settled.0)
          (goes T item visits before behind P Val (acts (Ok v) answers) (change v) (plain texts tuples v) (on v) answers.answer old new p settled.1)
      does (Err stop) answers p settled =
          subst (Does T item visits before behind old.calls new.calls) (sym settled.0)
          (stops T item visits before behind P Val (acts (Err stop) answers) stop answers.answer old.calls new.calls p)

  -- the running call changes, whatever the value is
  pub changed : (change : Call → Call) (old new : Calls) (result : Result (Unit {0}) Stop) (given : Result Value Stop) → Settles (λ (v : Value). change) given old new result → Changes change old new result
  changed change old new result (Ok v) settled = subst (Changes change old new) (sym settled.0) settled.1
  changed change old new result (Err stop) settled = subst (Changes change old new) (sym settled.0) settled.1

  -- where this holds of the running call, the instruction puts what the effect gives in the place of slots
  abbrev pub Gives : Item → (taken : ℕ) → Heap Value ℕ → (Call → Type 0) → (PlainWorld → Effect Val) → Type 0
  Gives item taken before P effect =
      (layout : Layout) (library : Library) (place : Place) (paid : ℕ) (c : Call) (frames : List states.Frame) (w : PlainWorld) → P c
      → (let view = view_of (tables_of texts tuples layout) in let frame = frame_of view c in let world = world_over texts tuples w before in
      item_step library place paid frame frames world item ≡ step.gives library place paid frame frames world (slots_of view (starts_of view c) (drop taken c.slots)) (effect world))

  -- the same where no value is put
  abbrev pub Drops : Item → (taken : ℕ) → Heap Value ℕ → (Call → Type 0) → (PlainWorld → Effect Val) → Type 0
  Drops item taken before P effect =
      (layout : Layout) (library : Library) (place : Place) (paid : ℕ) (c : Call) (frames : List states.Frame) (w : PlainWorld) → P c
      → (let view = view_of (tables_of texts tuples layout) in let frame = frame_of view c in let world = world_over texts tuples w before in
      item_step library place paid frame frames world item ≡ step.puts library place paid frame frames world (slots_of view (starts_of view c) (drop taken c.slots)) (effect world))

  module _ (end taken : ℕ) (before behind : Heap Value ℕ) (old new : Calls) (result : Result (Unit {0}) Stop) (given : Result Value Stop) (visits : ℕ) (effect : PlainWorld → Effect Val) (answers : Answers before behind given visits effect)
      (item : Item) (P : Call → Type 0) (p : OfRunning P old.calls) where
    abbrev Next : Layout → Call → Type 0
    Next layout c = let view = view_of (tables_of texts tuples layout) in position_in (starts_of view c) end ≡ suc (position_of view c)

    pub puts_steps : Gives item taken before P effect → Settles (with_value end taken) given old new result → Steps texts tuples item visits end before behind old.calls new.calls result
    puts_steps is settled layout next =
        let view = view_of (tables_of texts tuples layout) in
        does (with_value end taken) old new result layout item visits before behind (λ c. P c × Next layout c) effect
        (λ c frames v w. go (suc (position_of view c)) (states.Value v ∷ slots_of view (starts_of view c) (drop taken c.slots)) (frame_of view c).entries (frame_of view c) frames w)
        (λ library place paid c frames w h. is layout library place paid c frames w h.0)
        (λ v c frames w h. goes_to view c (suc (position_of view c)) end (slots.Value v ∷ drop taken c.slots) frames w h.1)
        given answers (both P (Next layout) old.calls p next) settled

    pub takes_steps : Drops item taken before P effect → Settles (λ (v : Value). without end taken) given old new result → Steps texts tuples item visits end before behind old.calls new.calls result
    takes_steps is settled layout next =
        let view = view_of (tables_of texts tuples layout) in
        does (λ (v : Value). without end taken) old new result layout item visits before behind (λ c. P c × Next layout c) effect
        (λ c frames v w. go (suc (position_of view c)) (slots_of view (starts_of view c) (drop taken c.slots)) (frame_of view c).entries (frame_of view c) frames w)
        (λ library place paid c frames w h. is layout library place paid c frames w h.0)
        (λ v c frames w h. goes_to view c (suc (position_of view c)) end (drop taken c.slots) frames w h.1)
        given answers (both P (Next layout) old.calls p next) settled
