-- What a call comes to that an instruction makes, over an arena, with the output and the ports.
use Rattle.std.specs.Prelude.{◌≡◌, ◌⊎◌, ℕ, suc, ◌<◌, ◌≤◌, List, ◌++◌, map, Bool, true, false, Option, Some, Result, Ok, Err}
use Rattle.vm_states.specs.mpy_base.World.{Heap}
use Rattle.vm_states.specs.mpy_base.Val.{Val, PlainWorld}
use Rattle.mpy_io.specs.Ports.{PortView}
use Rattle.port_set.specs.Calls.{Tell}
use Rattle.port_set.specs.Counts.{RoseBeyond}
use Rattle.frame_calls.specs.arena_heap.declared.value.Value.{Value}
use Rattle.bc_progress.specs.py_effects.py_primitives.Faults as plain_faults
use Rattle.bc_progress.specs.py_effects.py_primitives.Outcome.{Raises}
use Rattle.bc_progress.specs.py_effects.Calling as plain
use Rattle.bc_progress.specs.py_effects.Calling.{Keys}
use Rattle.bc_progress.specs.py_effects.Effect.{Place}
use Rattle.vm_states.specs.bc_library.Shelf.{Shelf}
use Rattle.frame_calls.specs.bc_machine.State.{State}
use Rattle.vm_states.specs.bc_rows.declared.row.Row.{Row}
use Rattle.frame_calls.specs.prim_walks.Plain.{plain_pair}
use Rattle.frame_calls.specs.prim_faults.declared.stop.Stop.{Stop}
use Rattle.frame_calls.specs.prim_outputs.Prints.{Puts}
use Rattle.frame_calls.specs.prim_outputs.PortCalls.{Failed, called_number}
use Rattle.frame_calls.specs.prim_calls.Calls.{Seen}
use Rattle.frame_calls.specs.prim_calls.Callees.{plain_callee}
use Rattle.frame_calls.specs.prim_calls.declared.callees.Callee.{Callee}
use Rattle.frame_calls.specs.prim_calls.declared.calls.CallStop.{CallStop}
use Rattle.frame_calls.specs.prim_calls.declared.calls.CallStop.TheVariants as calls
use Rattle.vm_states.specs.vm_frames.Calls.{Call, Calls, on_running}
use Rattle.vm_states.specs.frame_moves.Shown.{value_of, running_of}
use Rattle.vm_states.specs.frame_moves.Outcomes.{world_of, outcome_of}
use Rattle.vm_states.specs.vm_fetching.declared.instruction.Fetched.{Fetched}
use Rattle.frame_calls.specs.Invoking.{visits_of}
use Rattle.frame_calls.specs.Operands.{Given}
use Rattle.frame_calls.specs.Putting.{with_value}
use Rattle.vm_states.specs.Means.{Program, Means}
use Rattle.vm_states.specs.Ready.{IsReady}
use Rattle.vm_states.specs.Acting.{stepped}
use Rattle.vm_states.specs.State.{IsState}

-- a stop as that of a call
abbrev pub of_stop : Result (Unit {0}) Stop → Result (Unit {0}) CallStop
of_stop (Ok done) = Ok tt
of_stop (Err stop) = Err (calls.Stops stop)

-- did the sink fail?
abbrev pub is_out : Result (Unit {0}) CallStop → Bool
is_out (Ok done) = false
is_out (Err (calls.Stops stop)) = false
is_out (Err (calls.Out failed)) = true

-- a call of this fails at a port
abbrev pub FailsAtPort : plain.Callee → List Val → Keys → Type 0
FailsAtPort (plain.Acts act) args keys = (act args keys).answer ≡ Err (Raises plain_faults.PortFailed)
FailsAtPort (plain.Runs f) args keys = ⊥

module _ (p : Program) (callee : Callee) (given : Given) (before : Heap Value ℕ) (w : PlainWorld) where
  -- the world that the call begins in, what is called there, and the operands
  abbrev pub begins_in : PlainWorld
  begins_in = world_of p.tables w before

  -- what is called, as the meaning has it
  abbrev pub called : plain.Callee
  called = plain_callee p.tables.texts p.tables.tuples begins_in callee

  -- the positional arguments
  abbrev pub plain_args : List Val
  plain_args = map (value_of p.tables) given.args

  -- the keyword arguments
  abbrev pub plain_keys : Keys
  plain_keys = map (plain_pair p.tables.texts p.tables.tuples) given.keys

  -- how many visits it makes
  abbrev pub visits : ℕ
  visits = visits_of called plain_args plain_keys

  -- the machine pays a step for each visit of the call, and then comes to this
  pub record Comes (old : Calls) (outcome : State) : Type 0 where
    pub pays : (paid : ℕ) → paid < visits → stepped p paid old w before ≡ running_of p.tables (suc paid) old.calls begins_in
    pub steps : (paid : ℕ) → visits ≤ paid → stepped p paid old w before ≡ outcome

  -- a call of a port failed, and its count of faults rose, where the call in this world doesn't fail: it rose beyond the faults
  -- that the port tells
  pub record Strays (earlier later : List PortView) : Type 0 where
    pub failed : Failed (called_number given.args) earlier later
    pub untold : FailsAtPort called plain_args plain_keys → ⊥
    pub rose : RoseBeyond failed.number earlier later

module _ {S : Type 0} (told : S → Option (List ℕ)) (count : S
    → ℕ) (p : Program) (place : Place) (callee : Callee) (given : Given) (before behind : Seen S) (old new : Calls) (w : PlainWorld) where
  -- the new calls go on, or the old ones stop, in a world with the same modules, whose output the sink tells, and whose ports
  -- are told
  pub record Goes (result : Result (Unit {0}) Stop) : Type 0 where
    pub after : PlainWorld
    pub modules : after.modules ≡ w.modules
    pub output : told behind.out ≡ Some after.output
    pub ports : Tell behind.ports after.ports
    pub comes : Comes p callee given before.heap w old (outcome_of p.tables place after behind.heap old.calls new.calls result)

  -- the sink failed: the machine puts a text and goes on, and a front of the text was put, and nothing else was done
  pub record SinkFails : Type 0 where
    pub text : List ℕ
    pub puts : Puts told count before.out behind.out true text
    pub heap : behind.heap ≡ before.heap
    pub ports : behind.ports ≡ before.ports
    pub onwards : List Call
    pub comes : Comes p callee given before.heap w old
        (running_of p.tables 0 onwards (record (begins_in p callee given before.heap w) { output = w.output ++ text }))

  -- what it comes to, by what it answers
  abbrev pub CallComes : Result (Unit {0}) CallStop → Type 0
  CallComes (Ok done) = Goes (Ok done)
  CallComes (Err (calls.Stops stop)) = Goes (Err stop) ⊎ Strays p callee given before.heap w before.ports behind.ports
  CallComes (Err (calls.Out failed)) = SinkFails

-- so it is in each program of the library that the old calls run, where this was fetched for the first of them, and in each
-- world whose output the sink told and whose ports were told
abbrev pub CallsIn : {S : Type 0} → (told : S → Option (List ℕ)) → (count : S → ℕ) → Shelf → Fetched → Callee → Given
    → (before behind : Seen S) → (old new : Calls) → Result (Unit {0}) CallStop → Type 0
CallsIn told count shelf fetched callee given before behind old new result =
    (p : Program) (row : Row) → Means p → p.shelf ≡ shelf → IsState p before.heap.objects old → (ready : IsReady p old row fetched)
    → (w : PlainWorld) → told before.out ≡ Some w.output → Tell before.ports w.ports
    → CallComes told count p ready.place callee given before behind old new w result

-- a call that puts nothing and calls no port comes to this, in each program of the library that the old calls run, where this was fetched
-- for the first of them, and in each world
abbrev pub ComesIn : Shelf → Fetched → Callee → Given → (before behind : Heap Value ℕ) → (old new : Calls) → Result (Unit {0}) Stop → Type 0
ComesIn shelf fetched callee given before behind old new result =
    (p : Program) (row : Row) → Means p → p.shelf ≡ shelf → IsState p before.objects old → (ready : IsReady p old row fetched)
    → (w : PlainWorld) → Comes p callee given before w old (outcome_of p.tables ready.place w behind old.calls new.calls result)

-- whatever the output and the ports do
-- ====================================

module _ (p : Program) (place : Place) (next size : ℕ) (before behind : Heap Value ℕ) (old new : Calls) where
  -- where enough is paid the machine's step comes to the new heap, in a world with the same modules
  pub record Reaches (result : Result (Unit {0}) Stop) (w : PlainWorld) : Type 0 where
    pub paid : ℕ
    pub after : PlainWorld
    pub modules : after.modules ≡ w.modules
    pub steps : stepped p paid old w before ≡ outcome_of p.tables place after behind old.calls new.calls result

  -- the heap stays, and a value lies in the place of what the call took
  pub record Gives : Type 0 where
    pub heap : behind ≡ before
    pub value : Value
    pub calls : new ≡ on_running (with_value next size value) old

  -- the machine comes to it in each world; or the heap stays, and the call gave a value or stopped. Where the sink failed it stays
  abbrev pub HeapComes : Result (Unit {0}) CallStop → Type 0
  HeapComes (Ok done) = Gives ⊎ ((w : PlainWorld) → Reaches (Ok done) w)
  HeapComes (Err (calls.Stops stop)) = (behind ≡ before) ⊎ ((w : PlainWorld) → Reaches (Err stop) w)
  HeapComes (Err (calls.Out failed)) = behind ≡ before

-- so it is in each program of the library that the old calls run, where this was fetched for the first of them
abbrev pub HeapComesIn : Shelf → Fetched → (size : ℕ) → (before behind : Heap Value ℕ) → (old new : Calls) → Result (Unit {0}) CallStop → Type 0
HeapComesIn shelf fetched size before behind old new result =
    (p : Program) (row : Row) → Means p → p.shelf ≡ shelf → IsState p before.objects old → (ready : IsReady p old row fetched)
    → HeapComes p ready.place fetched.end size before behind old new result
