-- Calls of functions whose code isn't there.
use Rattle.std.proofs.Common.{◌≡◌, ℕ, suc, List, [], ◌∷◌, map, drop, Option, None, Ok, ap, ◌∙◌, arith}
use Rattle.mpy_base.specs.World.{Heap}
use Rattle.mpy_base.specs.Val.{PlainWorld}
use Rattle.frame_moves.specs.arena_heap.declared.value.Value.{Value}
use Rattle.frame_moves.specs.arena_heap.declared.value.Value.TheVariants as values
use Rattle.frame_moves.specs.bc_machine.Library.{Item, Library, Code, code_at}
use Rattle.frame_moves.specs.bc_machine.Step as step
use Rattle.frame_moves.specs.prim_walks.Plain.{plain_name, plain_pair}
use Rattle.prim_calls.specs.declared.callees.Callee.TheVariants as callees
use Rattle.prim_calls.specs.declared.callees.Function.{Function}
use Rattle.prim_calls.specs.Callees.{plain_function}
use Rattle.frame_moves.specs.vm_frames.declared.slot.Slot.TheVariants as slots
use Rattle.frame_moves.specs.vm_frames.Calls.{Call, OfRunning, change_first}
use Rattle.frame_moves.specs.bc_labels.Positions.{position_in}
use Rattle.frame_moves.specs.vm_frames.Views.{slots_of, starts_of, position_of, frame_of}
use Rattle.frame_moves.specs.Shown.{Tables, view_of, value_of}
use Rattle.frame_moves.specs.Outcomes.{world_of, outcome_of}
use Rattle.frame_moves.proofs.Stepping.{goes_to}
use Rattle.frame_calls.specs.Coming.{Comes}
use Rattle.frame_calls.specs.Invoking.{Invokes}
use Rattle.frame_calls.specs.Putting.{with_value}

-- the call gives None
pub skips : (t : Tables) (library : Library) (item : Item) (size end : ℕ) (heap : Heap Value ℕ) (args : List Value) (keys : List (Value × Value)) (f : Function) (calls : List Call) → Invokes t item size heap calls args keys (callees.Runs f)
    → code_at library (plain_name t.texts t.tuples f.module_name) f.code ≡ None → OfRunning (λ c. position_in (starts_of (view_of t) c) end ≡ suc (position_of (view_of t) c)) calls
    → (w : PlainWorld) → Comes t library item 0 (world_of t w heap) calls (λ place. outcome_of t place w heap calls (change_first (with_value end size values.None) calls) (Ok tt))
skips t library item size end heap args keys f [] invokes none next w = absurd next
skips t library item size end heap args keys f (c ∷ cs) invokes none next w =
    let F = frame_of (view_of t) c in
    let Fs = map (frame_of (view_of t)) cs in
    let W = world_of t w heap in
    let below = slots_of (view_of t) (starts_of (view_of t) c) (drop size c.slots) in
    record {
      pays = λ place paid less. absurd (omega (arith, less));
      steps = λ place paid enough.
          invokes.calls_it library place paid w
          ∙ (ap (λ (z : Option Code). step.run_code library place paid F Fs W below (plain_function t.texts t.tuples f) z (map (value_of t) args) (map (plain_pair t.texts t.tuples) keys)) none
          ∙ goes_to (view_of t) c (suc (position_of (view_of t) c)) end (slots.Value values.None ∷ drop size c.slots) Fs W next);
    }
