-- An instruction that the machine has fetched and carries out.
use Rattle.std.specs.Prelude.{◌≡◌, ◌+◌, ◌≤◌, ℕ, List, length, Option, Some, None, Result, Ok, Err, OnErr}
use Rattle.mpy_base.specs.Val.{PlainWorld}
use Rattle.mpy_io.specs.declared.fault.Failed.{Failed as SinkFault}
use Rattle.bc_library.specs.Shelf.{Shelf}
use Rattle.state_steps.specs.vm_frames.bc_machine.Machine.{steps}
use Rattle.vm_kept.specs.state_calls.bc_rows.declared.row.Row.{Row}
use Rattle.vm_kept.specs.state_calls.prim_calls.Calls.{Seen}
use Rattle.vm_kept.specs.state_calls.prim_calls.declared.callees.Callee.{Callee}
use Rattle.state_steps.specs.vm_frames.Calls.{OfRunning}
use Rattle.vm_kept.specs.state_calls.frame_exits.declared.ends.End.{End}
use Rattle.vm_kept.specs.state_calls.vm_fetching.declared.instruction.Fetched.{Fetched}
use Rattle.vm_kept.specs.state_calls.vm_fetching.Fetches.{IsVerifiedRow}
use Rattle.vm_starting.specs.Kept.{IsFetchedOf, place_in}
use Rattle.vm_starting.specs.vm_states.Means.{Program}
use Rattle.vm_starting.specs.vm_states.Ready.{IsReady}
use Rattle.vm_kept.specs.state_exits.Modules.{AreNames}
use Rattle.vm_kept.specs.state_calls.Runs.{IsFetchedAt}
use Rattle.vm_starting.specs.Programs.{IsProgramOf}
use Rattle.state_steps.specs.Calling.{CallsOn}
use Rattle.state_steps.specs.Comes.{ComesOn}
use Rattle.vm_starting.specs.declared.opening.Vm.{Vm}
use Rattle.vm_machine.specs.Machine.{IsVm, machine_of}
use Rattle.vm_machine.specs.Running.{Outside}

-- the machine goes on, and this was fetched from its row for the running call, in each program of the library, of which there is
-- one
pub record HasFetched (shelf : Shelf) (vm : Vm) (row : Row) (fetched : Fetched) : Type 0 where
  pub is_vm : IsVm shelf vm
  pub goes_on : vm.end ≡ None
  pub program : Program
  pub is_program : IsProgramOf shelf program
  pub named : (p : Program) → IsProgramOf shelf p → AreNames p vm.names.items
  pub ready : (p : Program) → IsProgramOf shelf p → IsReady p vm.frames row fetched
  pub read : OfRunning (IsFetchedAt shelf fetched) vm.frames.calls
  pub number : ℕ
  pub verified : IsVerifiedRow shelf number row

-- all that the places of a code keep is what is fetched there
abbrev pub AreFetchedIn : Shelf → (module_number code : ℕ) → List (Option Fetched) → Type 0
AreFetchedIn shelf module_number code places =
    (offset : ℕ) (fetched : Fetched) → place_in places offset ≡ Some fetched → IsFetchedOf shelf module_number code offset fetched

-- the memory that the machine has taken stays
pub record SameMemory (old new : Vm) : Type 0 where
  pub frames : new.frames ≡ record old.frames { calls = new.frames.calls }
  pub modules : new.modules.room ≡ old.modules.room
  pub names : new.names.items ≡ old.names.items
  pub operands : new.operands.room ≡ old.operands.room
  pub bindings : new.bindings.room ≡ old.bindings.room
  pub items : length new.items.items ≡ length old.items.items

-- in each program of the library the machine pays a step for each visit, and then it comes to the new calls or to the end
pub record Acted (shelf : Shelf) (visits : ℕ) (old new : Vm) : Type 0 where
  pub comes : (p : Program) → IsProgramOf shelf p → ComesOn p visits old.arena new.arena old.modules new.modules old.frames new.frames new.end
  pub memory : SameMemory old new
  pub paid : new.paid ≡ old.paid

-- these steps of the machine lead from the old state to the new one, in each program of the library and in each world
pub record Stepped (shelf : Shelf) (taken : ℕ) (old new : Vm) : Type 0 where
  pub vm : IsVm shelf new
  pub leads : (p : Program) → IsProgramOf shelf p → (w : PlainWorld) → steps p.library taken (machine_of p old w) ≡ machine_of p new w
  pub paid : new.paid ≤ old.paid + taken

-- the arena, the output and the ports
abbrev pub seen_by : {S : Type 0} → Vm → Outside S → Seen S
seen_by vm outside = record { heap = vm.arena; out = outside.out; ports = outside.ports }

-- how a call that was made ends the run, if it does
abbrev pub call_end : Result (Unit {0}) SinkFault → Option End → Result (Option End) SinkFault
call_end (Ok done) end = Ok end
call_end (Err failed) end = Err failed

-- a call of this was made, with the operands that the machine holds: in each program of the library it comes to this
pub record Called {S : Type 0} (told : S → Option (List ℕ)) (count : S
    → ℕ) (shelf : Shelf) (callee : Callee) (old new : Vm) (before behind : Outside S) (result : Result (Unit {0}) SinkFault) : Type 0 where
  pub calls : (p : Program) → IsProgramOf shelf p
      → CallsOn told count p callee old.operands (seen_by old before) (seen_by new behind) old.modules new.modules old.frames new.frames
      (call_end result new.end)
  pub memory : SameMemory old new
  pub paid : new.paid ≡ old.paid
  pub stays : OnErr result (new.end ≡ old.end)
