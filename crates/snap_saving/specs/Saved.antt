-- What saving answers.
use Rattle.std.specs.Prelude.{ℕ, ◌^◌, ◌<◌, ◌≤◌, ◌⊎◌, List, length, Result, Ok, Err}
use Rattle.mpy_base.specs.declared.limits.TheConstants.{MAX_CALLS}
use Rattle.mpy_base.specs.declared.refused.Refused.{Refused}
use Rattle.mpy_base.specs.declared.refused.Refused.TheVariants as refused
use Rattle.mpy_base.specs.World.{Heap}
use Rattle.arena_heap.specs.declared.value.Value.{Value}
use Rattle.bc_library.specs.Shelf.{Shelf}
use Rattle.vm_frames.specs.Calls.{Call}
use Rattle.prim_modules.specs.Registry.{Registry}
use Rattle.snap_grammar.specs.Spelling.{Fits, spelling}
use Rattle.snap_saving.specs.Shown.{snapshot_of}
use Rattle.snap_saving.specs.declared.fault.SaveFault.{SaveFault}

-- more bytes than a snapshot may have
abbrev pub IsLong : List ℕ → Type 0
IsLong bytes = 4194304 < length bytes

-- a fault, where the refusal is one, has this cause
abbrev pub FaultBy : Refused SaveFault → Type 0 → Type 0
FaultBy (refused.Fault fault) Cause = Cause
FaultBy refused.NoMemory Cause = Unit {0}

-- where a call ends with a fault, this is its cause
abbrev pub IfFault : {A : Type 0} → Result A (Refused SaveFault) → Type 0 → Type 0
IfFault (Ok x) Cause = Unit {0}
IfFault (Err refusal) Cause = FaultBy refusal Cause

-- a state has no snapshot: 2^63 steps or more are paid, there are more frames than a run may have, its bytes would be too many, or
-- they would not be read again, since a part, as a number of 2^31 or more, has no spelling
abbrev pub IsTooBig : Shelf → Heap Value ℕ → Registry → List Call → (paid : ℕ) → Type 0
IsTooBig shelf heap modules calls paid =
    (2 ^ 63 ≤ paid) ⊎ ((MAX_CALLS < length calls)
    ⊎ (IsLong (spelling (snapshot_of shelf heap modules calls paid)) ⊎ (Fits (snapshot_of shelf heap modules calls paid) → ⊥)))
