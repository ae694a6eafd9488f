-- What a source compiles to, and the first fault of one that compiles to nothing.
use Rattle.std.specs.Prelude.{◌≡◌, ◌⊎◌, ℕ, List, [], Some, slice_get, Result, Ok, Err, Vec}
use Rattle.std.specs.declared.alloc.Global.{Global}
use Rattle.mpy_base.specs.declared.refused.Refused.{Refused}
use Rattle.mpy_base.specs.declared.refused.Refused.TheVariants as refused
use Rattle.mpy_base.specs.declared.source.SourceFault.{SourceFault}
use Rattle.mpy_base.specs.declared.source.SourceCode.TheVariants.{TooLong}
use Rattle.mpy_writer.specs.mpy_tree.declared.module.ModuleCode.{ModuleCode}
use Rattle.mpy_writer.specs.mpy_tree.Canonical.{Canonical}
use Rattle.mpy_writer.specs.mpy_tree.FirstUse.{InFirstUse}
use Rattle.mpy_writer.specs.mpy_tree.Resolved.{ReadsAs}
use Rattle.mpy_writer.specs.declared.fault.WriteFault.{WriteFault}
use Rattle.mpy_writer.specs.File.{IsWritten, FirstFault}
use Rattle.mpy_writer.specs.Wide.{PassesAt, FitsWide}
use Rattle.mpy_compile.specs.Texts.{TextsFit}
use Rattle.emit_module.specs.py_source.declared.source.Accepted.{Accepted}
use Rattle.emit_module.specs.py_source.Source as sources
use Rattle.emit_module.specs.First.{Site, source_sites, AreWithin}
use Rattle.emit_module.specs.First as texts
use Rattle.emit_module.specs.Module.{source_of, IsTranslated}

-- ---- the file of a module

-- the bytes are the file of the module, of which no text is longer than a file and which passes no limit of files, with all jumps
-- wide nor as it is
pub record IsFileOf (whole : ModuleCode) (bytes : List ℕ) : Type 0 where
  pub reads : ReadsAs bytes whole
  pub canonical : Canonical bytes
  pub first_use : InFirstUse bytes
  pub written : IsWritten whole bytes
  pub fits : TextsFit whole
  pub wide : FitsWide whole
  pub within : (fault : WriteFault) → FirstFault whole fault → ⊥

-- ---- sources

-- the source is accepted at the level, no text of it passes a limit, and under the stored name the module translates it
pub record IsCompiled (level : ℕ) (source stored : List ℕ) (whole : ModuleCode) : Type 0 where
  pub accepted : Accepted
  pub is : sources.IsAccepted level source accepted
  pub within : AreWithin (source_of stored level accepted.tree)
  pub translated : IsTranslated (source_of stored level accepted.tree) whole

-- the bytes are the file of the source's module
pub record CompilesTo (level : ℕ) (source stored bytes : List ℕ) : Type 0 where
  pub whole : ModuleCode
  pub compiled : IsCompiled level source stored whole
  pub file : IsFileOf whole bytes

-- ---- faults

-- the code of a text passes a limit, in an accepted source
pub record HasCodeFault (level : ℕ) (source stored : List ℕ) (fault : SourceFault) : Type 0 where
  pub accepted : Accepted
  pub is : sources.IsAccepted level source accepted
  pub first : texts.IsFirstFault (source_of stored level accepted.tree) fault

-- a code of the source's module is too long with all jumps wide, in the line of the first such code's `def`; the module's own code
-- is so, too, where its file is
pub record HasLongCode (level : ℕ) (source stored : List ℕ) (fault : SourceFault) : Type 0 where
  pub whole : ModuleCode
  pub compiled : IsCompiled level source stored whole
  pub at : ℕ
  pub passes : PassesAt whole at
  pub site : Site
  pub stands : slice_get (source_sites (source_of stored level compiled.accepted.tree)) at ≡ Some site
  pub code : fault.code ≡ TooLong
  pub line : fault.line ≡ site.line
  pub word : fault.word ≡ []

-- the source is judged before its code, and each of its texts before the module as a whole
abbrev pub IsFault : (level : ℕ) (source stored : List ℕ) → SourceFault → Type 0
IsFault level source stored fault = sources.IsFirstFault level source fault ⊎ (HasCodeFault level source stored fault ⊎ HasLongCode level source stored fault)

-- why a source has no file: its first fault; want of memory says nothing
abbrev pub Refuses : (level : ℕ) (source stored : List ℕ) → Refused SourceFault → Type 0
Refuses level source stored (refused.Fault fault) = IsFault level source stored fault
Refuses level source stored refused.NoMemory = Unit {0}

-- what compiling a source under a stored name gives: its file, or its first fault
abbrev pub Compiles : (level : ℕ) (source stored : List ℕ) → Result (Vec ℕ Global) (Refused SourceFault) → Type 0
Compiles level source stored (Ok file) = CompilesTo level source stored file.items
Compiles level source stored (Err refusal) = Refuses level source stored refusal

-- what compiling it to a module gives: the module, where it has a file, or the first fault
abbrev pub CompilesModule : (level : ℕ) (source stored : List ℕ) → Result ModuleCode (Refused SourceFault) → Type 0
CompilesModule level source stored (Ok whole) = (bytes : List ℕ) × IsCompiled level source stored whole × IsFileOf whole bytes
CompilesModule level source stored (Err refusal) = Refuses level source stored refusal
