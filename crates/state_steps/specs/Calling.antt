-- Where a call comes to, with the output, the ports, and the modules that are registered.
use Rattle.std.specs.Prelude.{◌≡◌, ◌⊎◌, ℕ, suc, ◌<◌, ◌≤◌, List, ◌++◌, true, Option, Some, None, Result, Ok, Err, OnErr}
use Rattle.state_calls.specs.mpy_base.World.{Heap, Later}
use Rattle.state_calls.specs.mpy_base.Val.{PlainWorld}
use Rattle.mpy_io.specs.declared.fault.Failed.{Failed as SinkFault}
use Rattle.port_set.specs.Calls.{Tell}
use Rattle.state_calls.specs.arena_heap.declared.value.Value.{Value}
use Rattle.state_calls.specs.arena_heap.declared.value.StrNo.{StrNo}
use Rattle.state_calls.specs.arena_heap.declared.value.ConstNo.{ConstNo}
use Rattle.state_values.specs.py_effects.Effect.{Place}
use Rattle.state_calls.specs.bc_machine.State.{State}
use Rattle.state_calls.specs.bc_rows.declared.row.Row.{Row}
use Rattle.state_calls.specs.prim_faults.declared.stop.Stop.{Stop}
use Rattle.state_calls.specs.prim_outputs.Prints.{Puts}
use Rattle.state_calls.specs.prim_calls.Calls.{Seen}
use Rattle.state_calls.specs.prim_calls.declared.callees.Callee.{Callee}
use Rattle.state_calls.specs.prim_modules.Registry.{Registry}
use Rattle.state_values.specs.vm_frames.Calls.{Call, Calls, on_running}
use Rattle.state_calls.specs.frame_moves.Shown.{running_of}
use Rattle.state_calls.specs.frame_moves.Outcomes.{world_of, stopping_of}
use Rattle.state_calls.specs.frame_calls.Operands.{Given}
use Rattle.state_calls.specs.frame_calls.Putting.{with_value}
use Rattle.state_calls.specs.frame_exits.declared.names.ModuleName.{ModuleName}
use Rattle.state_calls.specs.frame_exits.declared.ends.End.{End}
use Rattle.state_calls.specs.frame_exits.Ends.{with_modules, state_of}
use Rattle.state_calls.specs.vm_fetching.declared.instruction.Fetched.{Fetched}
use Rattle.state_values.specs.vm_states.Means.{Program, Means}
use Rattle.state_values.specs.vm_states.Ready.{IsReady}
use Rattle.state_values.specs.vm_states.State.{IsState}
use Rattle.state_values.specs.vm_states.Acting.{Tells}
use Rattle.state_calls.specs.Called.{visits, Strays}
use Rattle.state_exits.specs.Modules.{AreNames, AreRegistered}
use Rattle.state_exits.specs.Running.{stepped_with, IsRun}

-- how the run ends, if it does: where the sink failed it goes on
abbrev pub end_in : Result (Option End) SinkFault → Option End
end_in (Ok end) = end
end_in (Err failed) = None

module _ {S : Type 0} (told : S → Option (List ℕ)) (count : S
    → ℕ) (p : Program) (callee : Callee) (given : Given) (before behind : Seen S) (earlier later : Registry) (old new : Calls) where
  -- what happens in one world, in which these modules are registered
  module _ (w : PlainWorld) where
    -- that world
    abbrev pub within : PlainWorld
    within = with_modules p.tables w earlier

    -- the machine pays a step for each visit of the call, and then its step comes from the old calls to this
    pub record StepsTo (outcome : State) : Type 0 where
      pub pays : (paid : ℕ) → paid < visits p callee given before.heap within
          → stepped_with p paid old w before.heap earlier ≡ running_of p.tables (suc paid) old.calls (world_of p.tables within before.heap)
      pub steps : (paid : ℕ) → visits p callee given before.heap within ≤ paid → stepped_with p paid old w before.heap earlier ≡ outcome

    -- it comes to the new calls, or to the end, in a world whose output the sink tells, and whose ports are told
    pub record Reaches (end : Option End) : Type 0 where
      pub after : PlainWorld
      pub output : told behind.out ≡ Some after.output
      pub ports : Tell behind.ports after.ports
      pub comes : StepsTo (state_of p.tables end new.calls (world_of p.tables (with_modules p.tables after later) behind.heap))

    -- the sink failed: the machine puts a text and goes on, and a front of the text was put
    pub record PutsFront : Type 0 where
      pub text : List ℕ
      pub puts : Puts told count before.out behind.out true text
      pub onwards : List Call
      pub comes : StepsTo (running_of p.tables 0 onwards (record (world_of p.tables within before.heap) { output = w.output ++ text }))

    -- or a port strayed
    abbrev pub CallReaches : Result (Option End) SinkFault → Type 0
    CallReaches (Ok end) = Reaches end ⊎ Strays p callee given before.heap within before.ports behind.ports
    CallReaches (Err failed) = PutsFront

  -- nothing changed but what the sink holds
  pub record OnlyPuts : Type 0 where
    pub calls : new ≡ old
    pub heap : behind.heap ≡ before.heap
    pub ports : behind.ports ≡ before.ports
    pub modules : later ≡ earlier

  -- It comes to this in each world whose output the sink told and whose ports were told. Whatever the sink and the ports do, the
  -- run goes on behind it or has ended; where the sink failed nothing was done
  pub record CallsOn (result : Result (Option End) SinkFault) : Type 0 where
    pub reaches : (w : PlainWorld) → told before.out ≡ Some w.output → Tell before.ports w.ports → CallReaches w result
    pub run : IsRun p behind.heap later new (end_in result)
    pub objects : Later before.heap.objects behind.heap.objects
    pub stays : OnErr result OnlyPuts

-- the call goes on so where the names are these and it was fetched for the first of the old calls
abbrev pub CallsOnBehind : {S : Type 0} → (told : S → Option (List ℕ)) → (count : S → ℕ) → (p : Program) → (StrNo → Option (List ℕ))
    → (ConstNo → Option (List Value)) → List ModuleName → Row → Fetched → Callee → Given → (before behind : Seen S)
    → (earlier later : Registry) → (old new : Calls) → Result (Option End) SinkFault → Type 0
CallsOnBehind told count p texts tuples names row fetched callee given before behind earlier later old new result =
    Means p → Tells texts tuples p → AreNames p names → IsState p before.heap.objects old → AreRegistered p before.heap earlier → IsReady p old row fetched
    → CallsOn told count p callee given before behind earlier later old new result

-- whatever the sink and the ports do
-- ==================================

module _ (p : Program) (place : Place) (next size : ℕ) (before behind : Heap Value ℕ) (earlier later : Registry) (old new : Calls) where
  -- the machine's step comes to the new calls, or to the end, in some world; or a value lies in the place of what the call took;
  -- or a stop was raised; or nothing was done
  pub data Went : Option End → Type 0 where
    steps : {end : Option End} (paid : ℕ) (w v : PlainWorld)
        → stepped_with p paid old w before earlier ≡ state_of p.tables end new.calls (world_of p.tables (with_modules p.tables v later) behind) → Went end
    gives : (v : Value) → new ≡ on_running (with_value next size v) old → Went None
    raises : {end : Option End} (stop : Stop) (between : Heap Value ℕ) (w v : PlainWorld) → Later before.objects between.objects
        → Later between.objects behind.objects
        → stopping_of p.tables place (with_modules p.tables w earlier) between old.calls stop
        ≡ state_of p.tables end new.calls (world_of p.tables (with_modules p.tables v later) behind) → Went end
    same : new ≡ old → behind ≡ before → Went None

-- the call went so where the names are these and it was fetched for the first of the old calls
abbrev pub WentBehind : (p : Program) → (StrNo → Option (List ℕ)) → (ConstNo → Option (List Value)) → List ModuleName → Row → Fetched
    → (size : ℕ) → (before behind : Heap Value ℕ) → (earlier later : Registry) → (old new : Calls) → Option End → Type 0
WentBehind p texts tuples names row fetched size before behind earlier later old new end =
    Means p → Tells texts tuples p → AreNames p names → IsState p before.objects old → AreRegistered p before earlier → (ready : IsReady p old row fetched)
    → Went p ready.place fetched.end size before behind earlier later old new end
