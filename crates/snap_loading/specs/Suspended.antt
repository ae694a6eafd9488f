-- Runs that are suspended.
use Rattle.std.specs.Prelude.{◌≡◌, ℕ, ◌^◌, ◌<◌, ◌≤◌, List, length, None}
use Rattle.mpy_base.specs.declared.limits.TheConstants.{MAX_CALLS}
use Rattle.mpy_base.specs.World.{PortState}
use Rattle.bc_library.specs.Shelf.{Shelf}
use Rattle.bc_machine.specs.Library.{Name}
use Rattle.vm_starting.specs.declared.opening.Vm.{Vm}
use Rattle.vm_machine.specs.Machine.{IsVm}
use Rattle.snap_grammar.specs.Spelling.{Fits, spelling}
use Rattle.snap_loading.specs.Resumed.{RunsTo}
use Rattle.snap_loading.specs.Saved.{IsHeld, snapshot_in}

-- the run of a main module stands behind so many steps with the machine and goes on, its room and its calls are no more
-- than may be, and the bytes spell the machine's snapshot
pub record IsSuspended (shelf : Shelf) (main : Name) (cells bytes : ℕ) (ports : List PortState) (n : ℕ)
    (snap : List ℕ) (vm : Vm) : Type 0 where
  pub is_vm : IsVm shelf vm
  pub goes_on : vm.end ≡ None
  pub runs : RunsTo shelf main cells bytes ports n vm
  pub held : IsHeld vm
  pub few_cells : cells ≤ 4194304
  pub few_bytes : bytes ≤ 16777216
  pub few_calls : length vm.frames.calls ≤ MAX_CALLS
  pub few_steps : vm.paid < 2 ^ 63
  pub fits : Fits (snapshot_in shelf vm)
  pub spelled : snap ≡ spelling (snapshot_in shelf vm)
