-- What compiling an entry's text answers.
use Rattle.std.specs.Prelude.{ℕ, List, Result, Ok, Err}
use Rattle.mpy_base.specs.declared.refused.Refused.{Refused}
use Rattle.mpy_base.specs.declared.source.SourceFault.{SourceFault}
use Rattle.image_freeze.specs.image_open.mpy_tree.Raw.{Module}
use Rattle.source_files.specs.mpy_compile.Compiled.{IsFault}
use Rattle.manifest_lines.specs.declared.entry.Entry.{Entry}
use Rattle.manifest_files.specs.FrozenFaults.{FaultIs}
use Rattle.frozen_files.specs.Sources.{IsModuleOf}

-- the module of its file, or its first fault
abbrev pub GivesModule : Entry → (text : List ℕ) → Result Module (Refused SourceFault) → Type 0
GivesModule entry text (Ok m) = IsModuleOf entry text m
GivesModule entry text (Err refusal) = FaultIs (IsFault entry.opt text entry.source) refusal
