-- Sources in a folder.
use Rattle.std.specs.Prelude.{ℕ, List, Option, Some}
use Rattle.mpy_base.specs.declared.source.SourceFault.{SourceFault}
use Rattle.mpy_io.specs.Files.{FileOf}
use Rattle.source_files.specs.mpy_compile.Compiled.{IsFault}
use Rattle.command_files.specs.Folder.{MayHold}

-- the source that the folder has under the name has this first fault
pub record HoldsFaulty (level : ℕ) (files : Option FileOf) (name stored : List ℕ) (fault : SourceFault) : Type 0 where
  pub source : List ℕ
  pub holds : MayHold files name (Some source)
  pub is : IsFault level source stored fault
