-- The machine that was made of a snapshot's bytes.
use Rattle.std.specs.Prelude.{◌≡◌, ℕ, List, None}
use Rattle.bc_library.specs.Shelf.{Shelf}
use Rattle.snap_grammar.specs.declared.parts.Snapshot.{Snapshot}
use Rattle.snap_grammar.specs.Spelling.{Fits, spelling}
use Rattle.snap_saving.specs.Shown.{snapshot_of}
use Rattle.snap_states.specs.Decoded.{IsDecoded}
use Rattle.snap_states.specs.States.{IsStateOf}
use Rattle.vm_machine.specs.vm_starting.declared.opening.Vm.{Vm}

-- the bytes spell a state of the library, which has not ended, and the machine stands there: its own snapshot is that
-- one, and it is what that one stands for
pub record IsLoaded (shelf : Shelf) (bytes : List ℕ) (vm : Vm) : Type 0 where
  pub goes_on : vm.end ≡ None
  pub s : Snapshot
  pub fits : Fits s
  pub spelled : bytes ≡ spelling s
  pub is_state : IsStateOf shelf s
  pub shown : snapshot_of shelf vm.arena vm.modules vm.frames.calls vm.paid ≡ s
  pub decoded : IsDecoded shelf s vm.arena vm.modules vm.frames.calls
