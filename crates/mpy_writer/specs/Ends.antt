-- How writing ends.
use Rattle.std.specs.Prelude.{ℕ, ◌≤◌, List, length, All, Result, Ok, Err}
use Rattle.mpy_base.specs.declared.refused.Refused.{Refused}
use Rattle.mpy_base.specs.declared.refused.Refused.TheVariants as refused
use Rattle.mpy_base.specs.declared.limits.TheConstants.{MAX_FILE_BYTES, MAX_CODE_BYTES}
use Rattle.mpy_tree.specs.declared.module.ModuleCode.{ModuleCode}
use Rattle.mpy_writer.specs.declared.fault.WriteFault.{WriteFault}
use Rattle.mpy_writer.specs.Tables.{TablesFit}
use Rattle.mpy_writer.specs.File.{IsWritten, FirstFault}

-- the bytes are the file of the module, and it keeps the limits
pub record IsFile (m : ModuleCode) (bytes : List ℕ) : Type 0 where
  pub written : IsWritten m bytes
  pub fit : TablesFit written.tables
  pub short_codes : All (λ own. length own ≤ MAX_CODE_BYTES) written.owns
  pub short : length bytes ≤ MAX_FILE_BYTES

-- the file is given, or the first fault
abbrev pub Ends : {A : Type 0} → ModuleCode → (A → List ℕ) → Result A (Refused WriteFault) → Type 0
Ends m bytes_of (Ok x) = IsFile m (bytes_of x)
Ends m bytes_of (Err refused.NoMemory) = Unit {0}
Ends m bytes_of (Err (refused.Fault fault)) = FirstFault m fault
