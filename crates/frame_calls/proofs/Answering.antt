-- Calls that act at once.
use Rattle.std.proofs.Common.{◌≡◌, ℕ, ◌<◌, length, drop, List, [], ◌∷◌, map, Result, Err, refl, sym, ap, arith}
use Rattle.mpy_base.specs.World.{Heap}
use Rattle.mpy_base.specs.Val.{Val, PlainWorld}
use Rattle.frame_moves.specs.arena_heap.declared.value.Value.{Value}
use Rattle.frame_moves.specs.py_values.Shown.{PlainHeap}
use Rattle.frame_moves.specs.py_primitives.Faults as plain_faults
use Rattle.frame_moves.specs.py_primitives.Outcome.{Outcome, Raises}
use Rattle.frame_moves.specs.py_effects.Effect.{Effect, on_heap, faults, fault_at}
use Rattle.frame_moves.specs.py_effects.Calling as plain_calls
use Rattle.frame_moves.specs.bc_machine.Library.{Item}
use Rattle.frame_moves.specs.bc_machine.State as states
use Rattle.frame_moves.specs.bc_machine.State.{fail}
use Rattle.frame_moves.specs.bc_machine.Step as step
use Rattle.frame_moves.specs.vm_frames.Calls.{Call}
use Rattle.frame_moves.specs.vm_frames.Views.{slots_of, starts_of, frame_of}
use Rattle.prim_calls.specs.declared.callees.Callee.{Callee}
use Rattle.prim_calls.specs.Callees.{plain_callee}
use Rattle.frame_moves.specs.prim_faults.declared.stop.Stop.{Stop}
use Rattle.frame_moves.specs.prim_faults.declared.stop.Stop.TheVariants as stops
use Rattle.frame_moves.specs.prim_faults.declared.fault.Fault.{Fault}
use Rattle.frame_moves.specs.prim_faults.Faults.{plain_fault}
use Rattle.frame_moves.specs.prim_faults.Outcomes.{IsOutcome}
use Rattle.frame_moves.specs.Shown.{Tables, view_of}
use Rattle.frame_moves.specs.Outcomes.{world_of, outcome_of, Does}
use Rattle.frame_calls.specs.Invoking.{Invokes}
use Rattle.frame_calls.proofs.Coming.{Answers, comes, does_all}
use Rattle.frame_calls.proofs.Invokings.{invokes_in}

-- what a call on the heap answers, as an effect
pub of_outcome : (t : Tables) (w : PlainWorld) (before behind : Heap Value ℕ) (given : Result Value Stop) (outcome : Outcome Val) → IsOutcome t.texts t.tuples before behind given outcome
    → Answers t w behind given outcome.visits (on_heap (world_of t w before) outcome)
of_outcome t w before behind given outcome is =
    record { answer = is.answer; world = ap (λ (z : PlainHeap). record w { heap = z }) is.heap; visits_are = refl }

pub of_fault : (t : Tables) (w : PlainWorld) (heap : Heap Value ℕ) (fault : Fault) (plain : plain_faults.Fault) → plain_fault t.texts t.tuples heap fault ≡ plain
    → Answers t w heap (Err (stops.Raises fault)) 0 (faults plain (world_of t w heap))
of_fault t w heap fault plain is =
    record { answer = ap (λ (z : plain_faults.Fault). Err (Raises z)) is; world = refl; visits_are = refl }

-- a callee that only raises
pub refused_does : (t : Tables) (item : Item) (size : ℕ) (heap : Heap Value ℕ) (calls : List Call) (args : List Value) (keys : List (Value × Value)) (callee : Callee) (fault : Fault) (plain : plain_faults.Fault) → 0 < length calls
    → Invokes t item size heap calls args keys callee → ((w : PlainWorld) → plain_callee t.texts t.tuples w callee ≡ plain_calls.Acts (λ vs ks. faults plain w)) → plain_fault t.texts t.tuples heap fault ≡ plain
    → Does t item 0 heap heap calls calls (Err (stops.Raises fault))
refused_does t item size heap [] args keys callee fault plain some is acts same = absurd (omega (arith, some))
refused_does t item size heap (c ∷ cs) args keys callee fault plain some is acts same =
    does_all t item 0 heap heap (c ∷ cs) (c ∷ cs) (Err (stops.Raises fault))
    (λ library w.
    let W = world_of t w heap in
    let effect : Effect Val = faults plain W in
    let F = frame_of (view_of t) c in
    let Fs = map (frame_of (view_of t)) cs in
    let below = slots_of (view_of t) (starts_of (view_of t) c) (drop size c.slots) in
    comes t library item 0 W c cs (λ place. outcome_of t place w heap (c ∷ cs) (c ∷ cs) (Err (stops.Raises fault))) effect (λ place v. step.next library place 0 F Fs W (states.Value v ∷ below))
    (invokes_in t library item size heap (c ∷ cs) args keys callee (λ z vs ks. faults plain z) is acts w) refl
    (λ place. ap (λ (z : plain_faults.Fault). fail (fault_at place W z) F Fs) (sym same)))
