-- What calls of built-ins come to, with the output and the ports.
use Rattle.std.specs.Prelude.{◌≡◌, ℕ, ◌++◌, List, map, true, Option, Some, Result, Ok, Err}
use Rattle.mpy_base.specs.declared.builtin.Builtin.{Builtin}
use Rattle.mpy_base.specs.World.{Objects}
use Rattle.mpy_base.specs.Val.{PlainWorld}
use Rattle.port_set.specs.Calls.{Tell}
use Rattle.frame_moves.specs.arena_heap.declared.value.Value.{Value}
use Rattle.frame_moves.specs.arena_heap.declared.value.Value.TheVariants as values
use Rattle.frame_moves.specs.arena_heap.declared.value.StrNo.{StrNo}
use Rattle.frame_moves.specs.arena_heap.declared.value.ConstNo.{ConstNo}
use Rattle.frame_moves.specs.py_primitives.Faults as plain
use Rattle.frame_moves.specs.py_primitives.Outcome.{Raises}
use Rattle.frame_moves.specs.py_effects.Calling.{call_builtin}
use Rattle.frame_moves.specs.bc_machine.Library.{Item, Library}
use Rattle.frame_moves.specs.prim_walks.Plain.{plain_pair}
use Rattle.frame_moves.specs.prim_faults.declared.fault.Fault.TheVariants as faults
use Rattle.frame_moves.specs.prim_faults.declared.stop.Stop.{Stop}
use Rattle.frame_moves.specs.prim_faults.declared.stop.Stop.TheVariants as stops
use Rattle.prim_calls.specs.prim_outputs.Prints.{Puts}
use Rattle.prim_calls.specs.Calls.{Seen, IsCall}
use Rattle.prim_calls.specs.declared.calls.CallStop.{CallStop}
use Rattle.prim_calls.specs.declared.calls.CallStop.TheVariants as calls
use Rattle.frame_moves.specs.vm_frames.Calls.{Call, change_first}
use Rattle.frame_moves.specs.Shown.{Tables, value_of, running_of}
use Rattle.frame_moves.specs.Outcomes.{world_of, outcome_of}
use Rattle.frame_calls.specs.Coming.{Comes}
use Rattle.frame_calls.specs.Putting.{with_value, done_of, IsKnownStop}

module _ {S : Type 0} (told : S → Option (List ℕ)) (count : S
    → ℕ) (tables : Tables) (library : Library) (item : Item) (size end : ℕ) (b : Builtin) (args : List Value) (keys : List (Value
    × Value)) (before behind : Seen S) (old new : List Call) (w : PlainWorld) where
  -- the world that the call begins in
  abbrev pub begins_in : PlainWorld
  begins_in = world_of tables w before.heap

  -- how many visits it makes
  abbrev pub visits_of : ℕ
  visits_of = (call_builtin begins_in b (map (value_of tables) args) (map (plain_pair tables.texts tables.tuples) keys)).visits

  -- the new calls go on, or the old ones stop, in a world with the same modules. Where the sink told the output before, it
  -- tells it behind, and where ports told theirs before, they tell them behind
  pub record Acts (result : Result (Unit {0}) Stop) : Type 0 where
    pub after : PlainWorld
    pub modules : after.modules ≡ w.modules
    pub output : told before.out ≡ Some w.output → told behind.out ≡ Some after.output
    pub ports : Tell before.ports w.ports → Tell behind.ports after.ports
    pub comes : Comes tables library item visits_of begins_in old (λ place. outcome_of tables place after behind.heap old new result)

  -- the sink failed: the machine puts the whole text and goes on with None, and a front of the text was put
  pub record Fails : Type 0 where
    pub text : List ℕ
    pub puts : Puts told count before.out behind.out true text
    pub heap : behind.heap ≡ before.heap
    pub ports : behind.ports ≡ before.ports
    pub comes : Comes tables library item visits_of begins_in old
        (λ place. running_of tables 0 (change_first (with_value end size values.None) old) (record begins_in { output = w.output ++ text }))

  -- a port fails only where that of the world does
  abbrev pub FailsAlike : Stop → Type 0
  FailsAlike stop =
      stop ≡ stops.Raises faults.PortFailed
      → (call_builtin begins_in b (map (value_of tables) args) (map (plain_pair tables.texts tables.tuples) keys)).answer
      ≡ Err (Raises plain.PortFailed)

  -- what it comes to, where the ports told theirs before a call of ports
  abbrev pub ActsBuilt : Result (Unit {0}) CallStop → Type 0
  ActsBuilt (Ok done) = Acts (Ok done)
  ActsBuilt (Err (calls.Stops stop)) = FailsAlike stop → Acts (Err stop)
  ActsBuilt (Err (calls.Out failed)) = Fails

-- some call of it gives this, and does so to the arena, the output and the ports
pub record IsCalled {S : Type 0} (told : S → Option (List ℕ)) (count : S → ℕ) (texts : StrNo → Option (List ℕ)) (tuples : ConstNo
    → Option (List Value)) (before behind : Seen S) (args : List Value) (keys : List (Value
    × Value)) (b : Builtin) (result : Result (Unit {0}) CallStop) : Type 0 where
  pub given : Result Value CallStop
  pub done : result ≡ done_of given
  pub call : IsCall told count texts tuples before behind args keys given b

-- what a stop tells is known
abbrev pub IsKnownCallStop : (StrNo → Option (List ℕ)) → (ConstNo → Option (List Value)) → Objects Value ℕ → Result (Unit {0}) CallStop → Type 0
IsKnownCallStop texts tuples objects (Ok done) = Unit {0}
IsKnownCallStop texts tuples objects (Err (calls.Stops stop)) = IsKnownStop texts tuples objects (Err stop)
IsKnownCallStop texts tuples objects (Err (calls.Out failed)) = Unit {0}
