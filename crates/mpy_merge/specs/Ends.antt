-- How a merge ends.
use Rattle.std.specs.Prelude.{ℕ, ◌<◌, ◌≤◌, List, length, All, Result, Ok, Err}
use Rattle.mpy_base.specs.declared.refused.Refused.{Refused}
use Rattle.mpy_base.specs.declared.refused.Refused.TheVariants as refused
use Rattle.mpy_base.specs.declared.limits.TheConstants.{MAX_TABLE, MAX_DEPTH, MAX_FILE_BYTES}
use Rattle.mpy_writer.specs.mpy_tree.Raw.{Module}
use Rattle.mpy_writer.specs.Tables.{TablesFit}
use Rattle.mpy_writer.specs.Writable.{IsFine}
use Rattle.mpy_merge.specs.declared.fault.MergeFault.{MergeFault}
use Rattle.mpy_merge.specs.declared.fault.TheConstants.{MAX_PARTS}
use Rattle.mpy_merge.specs.Merged.{all_objects, IsMerged}
use Rattle.mpy_merge.specs.Faults.{FirstFault}

-- a fault of the call is such a one
abbrev pub FaultIs : Refused MergeFault → (MergeFault → Type 0) → Type 0
FaultIs (refused.Fault fault) P = P fault
FaultIs refused.NoMemory P = Unit {0}

-- where a call ended with a fault, the fault is such a one
abbrev pub IfFault : {A : Type 0} → Result A (Refused MergeFault) → (MergeFault → Type 0) → Type 0
IfFault (Ok x) P = Unit {0}
IfFault (Err refusal) P = FaultIs refusal P

-- the bytes are the merged file of the modules, and it keeps the limits
pub record IsMergedFile (modules : List Module) (bytes : List ℕ) : Type 0 where
  pub some : 0 < length modules
  pub few : length modules ≤ MAX_PARTS
  pub merged : IsMerged modules bytes
  pub fit : TablesFit merged.tables
  pub few_objects : length (all_objects modules) ≤ MAX_TABLE
  pub fine : All (IsFine MAX_DEPTH) (all_objects modules)
  pub short : length bytes ≤ MAX_FILE_BYTES

-- the file is given, or the first fault
abbrev pub Ends : {A : Type 0} → List Module → (A → List ℕ) → Result A (Refused MergeFault) → Type 0
Ends modules bytes_of (Ok x) = IsMergedFile modules (bytes_of x)
Ends modules bytes_of (Err refusal) = FaultIs refusal (FirstFault modules)
