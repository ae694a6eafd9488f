-- Calls that get a value, or that stop.
use Rattle.std.proofs.Common.{◌≡◌, ℕ, List, [], ◌∷◌, drop, Option, Result, Ok, Err, refl, sym, ap, subst, ◌∙◌, arith}
use Rattle.std.specs.Prelude.{OnErr}
use Rattle.vm_states.specs.mpy_base.World.{Heap, Objects, Later}
use Rattle.vm_states.specs.mpy_base.Val.{PlainWorld}
use Rattle.frame_calls.specs.arena_heap.declared.value.Value.{Value}
use Rattle.frame_calls.specs.arena_heap.declared.value.StrNo.{StrNo}
use Rattle.frame_calls.specs.arena_heap.declared.value.ConstNo.{ConstNo}
use Rattle.frame_calls.specs.arena_objects.Keys.{AllTold}
use Rattle.bc_progress.specs.py_effects.Ends.{new_world}
use Rattle.frame_calls.specs.bc_labels.Positions.{Starts}
use Rattle.vm_states.specs.bc_rows.declared.row.Row.{Row}
use Rattle.frame_calls.specs.prim_faults.declared.stop.Stop.{Stop}
use Rattle.frame_calls.specs.prim_faults.declared.stop.Stop.TheVariants as stops
use Rattle.vm_states.specs.vm_frames.declared.slot.Slot.{Slot}
use Rattle.vm_states.specs.vm_frames.declared.slot.Slot.TheVariants as slots
use Rattle.vm_states.specs.vm_frames.Calls.{Call, Calls, on_running}
use Rattle.vm_states.specs.vm_frames.Views.{starts_of}
use Rattle.vm_states.specs.frame_moves.Shown.{view_of, running_of, step_of}
use Rattle.vm_states.specs.frame_moves.Outcomes.{world_of, outcome_of}
use Rattle.vm_states.specs.Finds.{GoesOn}
use Rattle.vm_states.specs.vm_fetching.declared.instruction.Fetched.{Fetched}
use Rattle.vm_states.specs.frame_values.Effects as instructions
use Rattle.frame_calls.specs.Built.{IsKnownCallStop}
use Rattle.frame_calls.specs.Coming.{ComesTo}
use Rattle.frame_calls.specs.Putting.{with_value, IsKnownStop, Puts}
use Rattle.vm_states.specs.Means.{Program, Means}
use Rattle.vm_states.specs.Ready.{item_at, IsReady}
use Rattle.vm_states.specs.Running.{IsRunning}
use Rattle.vm_states.specs.Acting.{Acts}
use Rattle.vm_states.specs.State.{IsKnownValue, IsState}
use Rattle.state_calls.specs.Called.{of_stop}

-- the laws of calls that stay known, and of running ones
pub record Laws : Type 0 where
  pub stays : (p : Program) (before behind : Objects Value ℕ) (s : Calls) → IsState p before s → Later before behind → AllTold p.tables.texts p.tables.tuples behind → IsState p behind s
  pub puts : (p : Program) (before behind : Objects Value ℕ) (s new : Calls) (end taken : ℕ) (v : Value)
      → IsState p before s → Later before behind → AllTold p.tables.texts p.tables.tuples behind → IsRunning p new → IsKnownValue p behind v
      → new ≡ on_running (with_value end taken v) s → IsState p behind new
  pub goes_on : (p : Program) (s new : Calls) (row : Row) (fetched : Fetched) (r : IsReady p s row fetched) (at : ℕ) (st : Call → List Slot) (locals : Call → List (Option Value)) (paid : ℕ) (before behind : PlainWorld)
      → Means p → IsRunning p s → Starts (starts_of (view_of p.tables) r.first) at
      → new ≡ on_running (λ c. record c { at = at; slots = st c; locals = locals c }) s
      → step_of p.tables p.library r.place paid s.calls before (item_at p r.first fetched) ≡ running_of p.tables 0 new.calls behind → IsRunning p new

-- where an instruction that puts a value was made, and what it leaves
pub record Put {E : Type 0} (texts : StrNo → Option (List ℕ)) (tuples : ConstNo → Option (List Value)) (before behind : Heap Value ℕ) (end taken : ℕ) (old new : Calls) (result : Result (Unit {0}) E) : Type 0 where
  pub puts : Puts texts tuples behind.objects end taken old new result
  pub later : Later before.objects behind.objects
  pub all_told : AllTold texts tuples behind.objects

-- where it stops the calls stay
pub stays_put : {E : Type 0} (texts : StrNo → Option (List ℕ)) (tuples : ConstNo → Option (List Value)) (objects : Objects Value ℕ) (end taken : ℕ) (old new : Calls) (result : Result (Unit {0}) E)
    → Puts texts tuples objects end taken old new result → OnErr result (new ≡ old)
stays_put texts tuples objects end taken old new (Ok done) h = tt
stays_put texts tuples objects end taken old new (Err stop) h = h

pub known_stop : (texts : StrNo → Option (List ℕ)) (tuples : ConstNo → Option (List Value)) (objects : Objects Value ℕ) (result : Result (Unit {0}) Stop)
    → IsKnownStop texts tuples objects result → instructions.IsKnownStop texts tuples objects result
known_stop texts tuples objects (Ok done) h = tt
known_stop texts tuples objects (Err (stops.Raises fault)) h = h
known_stop texts tuples objects (Err (stops.Full room)) h = tt

pub call_stop : (texts : StrNo → Option (List ℕ)) (tuples : ConstNo → Option (List Value)) (objects : Objects Value ℕ) (result : Result (Unit {0}) Stop)
    → IsKnownStop texts tuples objects result → IsKnownCallStop texts tuples objects (of_stop result)
call_stop texts tuples objects (Ok done) h = tt
call_stop texts tuples objects (Err stop) h = h

pub call_stays : (old new : Calls) (result : Result (Unit {0}) Stop) → OnErr result (new ≡ old) → OnErr (of_stop result) (new ≡ old)
call_stays old new (Ok done) h = tt
call_stays old new (Err stop) h = h

module _ (laws : Laws) (p : Program) (row : Row) (means : Means p) (before behind : Heap Value ℕ) (s new : Calls) (fetched : Fetched) (state : IsState p before.objects s) (r : IsReady p s row fetched) where
  -- the calls are a state again, where those that got the value run
  pub put_state : {E : Type 0} (taken : ℕ) (result : Result (Unit {0}) E) → Put p.tables.texts p.tables.tuples before behind fetched.end taken s new result
      → ((v : Value) → result ≡ Ok tt → new ≡ on_running (with_value fetched.end taken v) s → IsRunning p new) → IsState p behind.objects new
  put_state taken (Ok done) put run = laws.puts p before.objects behind.objects s new fetched.end taken put.puts.0 state put.later put.all_told (run put.puts.0 refl put.puts.2) put.puts.1 put.puts.2
  put_state taken (Err stop) put run = subst (IsState p behind.objects) (sym put.puts) (laws.stays p before.objects behind.objects s state put.later put.all_told)

  -- they run behind a step that comes to them
  pub step_runs : GoesOn (item_at p r.first fetched) → (taken paid : ℕ) (w after : PlainWorld) (v : Value) → step_of p.tables p.library r.place paid s.calls w (item_at p r.first fetched) ≡ running_of p.tables 0 new.calls after
      → new ≡ on_running (with_value fetched.end taken v) s → IsRunning p new
  step_runs on taken paid w after v steps moved =
      laws.goes_on p s new row fetched r fetched.end (λ c. slots.Value v ∷ drop taken c.slots) (λ c. c.locals) paid w after means state.running (r.begins on) moved steps

  -- an instruction without visits that comes to them acts so
  pub acts_put : GoesOn (item_at p r.first fetched) → (taken : ℕ) (result : Result (Unit {0}) Stop) → ComesTo p.tables p.library (item_at p r.first fetched) 0 before behind s.calls new.calls result
      → Put p.tables.texts p.tables.tuples before behind fetched.end taken s new result → IsKnownStop p.tables.texts p.tables.tuples behind.objects result → Acts p r.place 0 before behind s new result
  acts_put on taken result comes put stop =
      let none : PlainWorld = new_world 0 0 [] in
      record {
        pays = λ paid w less. absurd (omega (arith, less));
        steps = λ paid w enough. r.steps paid (world_of p.tables w before) ∙ (comes w).steps r.place paid enough;
        state = put_state taken result put
            (λ v ok moved. step_runs on taken 0 (world_of p.tables none before) (world_of p.tables none behind) v
            ((comes none).steps r.place 0 (omega arith) ∙ ap (outcome_of p.tables r.place none behind s.calls new.calls) ok) moved);
        later = put.later;
        stop = known_stop p.tables.texts p.tables.tuples behind.objects result stop;
      }
