-- What a run of the machine does, with a sink for the output and ports.
use Rattle.std.specs.Prelude.{◌≡◌, ◌⊎◌, ◌<◌, ◌≤◌, ℕ, ◌+◌, List, ◌++◌, Option, Some, None, Result, IfOk, OnErr, is_err, true}
use Rattle.mpy_base.specs.Val.{PlainWorld}
use Rattle.mpy_io.specs.Count.{Counts}
use Rattle.mpy_io.specs.Ports.{PortView}
use Rattle.mpy_io.specs.declared.fault.Failed.{Failed as SinkFault}
use Rattle.port_set.specs.Calls.{Tell}
use Rattle.port_set.specs.Counts.{CountsKeep}
use Rattle.bc_library.specs.Shelf.{Shelf}
use Rattle.state_steps.specs.vm_frames.bc_machine.Machine.{steps}
use Rattle.state_steps.specs.vm_frames.bc_machine.Step.{step}
use Rattle.vm_kept.specs.state_calls.bc_rows.declared.row.Row.{Row}
use Rattle.vm_starting.specs.prim_outputs.Prints.{Puts}
use Rattle.state_steps.specs.vm_frames.Calls.{Call}
use Rattle.vm_kept.specs.state_calls.frame_moves.Shown.{running_of}
use Rattle.vm_kept.specs.state_calls.frame_exits.Ends.{with_modules}
use Rattle.vm_kept.specs.state_calls.vm_fetching.declared.operations.CallOp.{CallOp}
use Rattle.vm_kept.specs.state_calls.vm_fetching.Instructions as fetched
use Rattle.vm_starting.specs.frame_calls.declared.calling.Invocation.{Invocation}
use Rattle.vm_starting.specs.frame_calls.Operands.{Given}
use Rattle.vm_starting.specs.vm_states.Means.{Program}
use Rattle.vm_starting.specs.vm_states.Ready.{IsReady}
use Rattle.vm_kept.specs.state_calls.Called as called
use Rattle.vm_kept.specs.state_calls.Taken.{IsTaken}
use Rattle.vm_starting.specs.Programs.{IsProgramOf}
use Rattle.vm_starting.specs.declared.opening.Vm.{Vm}
use Rattle.vm_machine.specs.Machine.{IsVm, machine_of, world_in}

-- the sink of the output, and the ports
pub record Outside (S : Type 0) : Type 0 where
  pub out : S
  pub ports : List PortView

-- the calls stand at an instruction that calls this with these operands
pub record StandsAtCall (p : Program) (vm : Vm) (given : Given) (call : Invocation) : Type 0 where
  pub row : Row
  pub op : CallOp
  pub number : ℕ
  pub end : ℕ
  pub ready : IsReady p vm.frames row (record { instruction = fetched.call op number; end = end })
  pub taken : IsTaken p.shelf op number vm.arena vm.frames given call

module _ {S : Type 0} (told : S → Option (List ℕ)) where
  -- the sink and the ports tell the output and the ports of the world
  pub record Agree (seen : Outside S) (w : PlainWorld) : Type 0 where
    pub output : told seen.out ≡ Some w.output
    pub ports : Tell seen.ports w.ports

  module _ (p : Program) (old : Vm) (w : PlainWorld) where
    -- in these steps the machine comes from the old state to the new one, and to a world that the sink and the ports tell
    pub record RunsFor (taken : ℕ) (new : Vm) (behind : Outside S) : Type 0 where
      pub after : PlainWorld
      pub agree : Agree behind after
      pub steps : steps p.library taken (machine_of p old w) ≡ machine_of p new after

    -- A port failed, though the machine's call of it doesn't fail, and its count of faults rose beyond the faults that it tells. Up to
    -- that call, which comes within these steps, the run is the machine's. No port's count fell from the ports before the run to those
    -- before the call, and from those behind the call to those behind the run
    pub record Strays (most : ℕ) (before behind : List PortView) : Type 0 where
      pub taken : ℕ
      pub within : taken < most
      pub there : Vm
      pub between : Outside S
      pub runs : RunsFor taken there between
      pub goes_on : there.end ≡ None
      pub given : Given
      pub call : Invocation
      pub stands : StandsAtCall p there given call
      pub after_call : List PortView
      pub strays : called.Strays p call.callee given there.arena (with_modules p.tables runs.after there.modules) between.ports after_call
      pub earlier : CountsKeep before between.ports
      pub later : CountsKeep after_call behind

    -- The sink failed in a put. Up to it, within these steps, the run is the machine's, whose next step puts a text; a front of
    -- that text was put
    pub record SinkFails (count : S → ℕ) (most : ℕ) (behind : Outside S) : Type 0 where
      pub taken : ℕ
      pub within : taken < most
      pub there : Vm
      pub between : Outside S
      pub runs : RunsFor taken there between
      pub goes_on : there.end ≡ None
      pub text : List ℕ
      pub puts : Puts told count between.out behind.out true text
      pub onwards : List Call
      pub next : step p.library (machine_of p there runs.after)
          ≡ running_of p.tables 0 onwards (record (world_in p there runs.after) { output = runs.after.output ++ text })
      pub ports : behind.ports ≡ between.ports

  module _ (shelf : Shelf) (old : Vm) (before behind : Outside S) (most : ℕ) where
    -- the machine's run is made for these steps, in each program of the library, where no port fails that the machine's doesn't.
    -- A run that has ended stays as it is
    abbrev pub Runs : (new : Vm) → Type 0
    Runs new = (p : Program) → IsProgramOf shelf p → (w : PlainWorld) → Agree before w
        → RunsFor p old w most new behind ⊎ Strays p old w most before.ports behind.ports

    -- the machine's run is made up to a put in which the sink failed, within these steps, in each program of the library, where no port
    -- fails that the machine's doesn't
    abbrev pub RunsToFailure : (count : S → ℕ) → Type 0
    RunsToFailure count = (p : Program) → IsProgramOf shelf p → (w : PlainWorld) → Agree before w
        → SinkFails p old w count most behind ⊎ Strays p old w most before.ports behind.ports

-- The machine has taken some of these steps, one at least, and in each program of the library they are its run's; where it pays for
-- visits it has paid no more than it took. Where the sink failed it stands at that put, with what was paid before. It runs the
-- library again, the sink's count of faults rose exactly where it failed, and no port's count fell
pub record Advances {S : Type 0} (told : S → Option (List ℕ)) (count : S
    → ℕ) (shelf : Shelf) (old new : Vm) (before behind : Outside S) (most : ℕ) (result : Result ℕ SinkFault) : Type 0 where
  pub vm : IsVm shelf new
  pub runs : IfOk result (λ taken. Runs told shelf old before behind taken new)
  pub failed : OnErr result (RunsToFailure told shelf old before behind most count)
  pub taken : IfOk result (λ taken. (0 < taken) × (taken ≤ most) × (new.paid ≤ old.paid + taken))
  pub paid : OnErr result (new.paid ≡ old.paid)
  pub counts : Counts (count before.out) (count behind.out) (is_err result)
  pub faults : CountsKeep before.ports behind.ports
