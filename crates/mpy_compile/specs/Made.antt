-- A module with its file, or the first fault of what would be one.
use Rattle.std.specs.Prelude.{◌≡◌, ℕ, List, [], Some, slice_get, Result, Ok, Err}
use Rattle.mpy_base.specs.declared.refused.Refused.{Refused}
use Rattle.mpy_base.specs.declared.refused.Refused.TheVariants as refused
use Rattle.mpy_base.specs.declared.source.SourceCode.TheVariants.{TooLong}
use Rattle.mpy_base.specs.declared.source.SourceFault.{SourceFault}
use Rattle.mpy_writer.specs.mpy_tree.declared.module.ModuleCode.{ModuleCode}
use Rattle.mpy_writer.specs.Wide.{PassesAt}
use Rattle.mpy_compile.specs.declared.compiling.Made.{Made}
use Rattle.mpy_compile.specs.Compiled.{IsFileOf, IsCompiled, Refuses}

-- the fault of a module whose codes stand in these lines: of the first code that is too long
pub record IsLongIn (whole : ModuleCode) (lines : List ℕ) (fault : SourceFault) : Type 0 where
  pub at : ℕ
  pub passes : PassesAt whole at
  pub stands : slice_get lines at ≡ Some fault.line
  pub code : fault.code ≡ TooLong
  pub word : fault.word ≡ []

-- what is made of a module whose codes stand in these lines; want of memory says nothing
abbrev pub Files : ModuleCode → List ℕ → Result Made (Refused SourceFault) → Type 0
Files whole lines (Ok made) = (made.whole ≡ whole) × IsFileOf whole made.file.items
Files whole lines (Err (refused.Fault fault)) = IsLongIn whole lines fault
Files whole lines (Err refused.NoMemory) = Unit {0}

-- what is made of a source under a stored name
abbrev pub Makes : (level : ℕ) (source stored : List ℕ) → Result Made (Refused SourceFault) → Type 0
Makes level source stored (Ok made) = IsCompiled level source stored made.whole × IsFileOf made.whole made.file.items
Makes level source stored (Err refusal) = Refuses level source stored refusal
