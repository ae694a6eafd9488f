-- Sources that a main source asks for, none of which has a fault, and what keeps a library's limits.
use Rattle.std.specs.Prelude.{◌≡◌, ℕ, List, Option, Some}
use Rattle.mpy_base.specs.declared.source.SourceFault.{SourceFault}
use Rattle.mpy_io.specs.Files.{FileOf}
use Rattle.mpy_tree.specs.Raw.{Module}
use Rattle.py_meaning.specs.Tree.{Name}
use Rattle.py_meaning.specs.Program.{Source, Single}
use Rattle.library_files.specs.declared.limit.Limit.{Limit}
use Rattle.library_files.specs.pkg_paths.Finds.{NamedFile}
use Rattle.library_files.specs.Loads.{Past}
use Rattle.source_files.specs.Sources.{stored}
use Rattle.meant_files.specs.Readings.{IsReading}
use Rattle.meant_files.specs.Sources.{HoldsSource, source_file}
use Rattle.command_files.specs.mpy_compile.Compiled.{IsFault}
use Rattle.command_files.specs.Opened.{HoldsModule}
use Rattle.meant_commands.specs.run_commands.Base.{base_of}
use Rattle.meant_commands.specs.run_commands.Go.{SourceLoadsOf}
use Rattle.meant_commands.specs.run_commands.Ready.{begins_image}
use Rattle.meant_commands.specs.run_commands.Run.{LoadsOf}
use Rattle.tool_laws.specs.AskedFor.{AsksFor}

-- the main source asks for the name, or a source does that the file of such a name is read as
pub data IsSourceAsked (level : ℕ) (files : FileOf) (base : List ℕ) (main : Source) : Name → Type 0 where
  main_asks : (name : Name) → AsksFor (Single main) name → IsSourceAsked level files base main name
  source_asks : (asking name : Name) (source : Source) → IsSourceAsked level files base main asking
      → HoldsSource files base level asking (Some source) → AsksFor (Single source) name → IsSourceAsked level files base main name

-- the source has no fault at the level, under the name that its file stores
abbrev pub IsFaultless : (level : ℕ) → (path source : List ℕ) → Type 0
IsFaultless level path source = (fault : SourceFault) → IsFault level source (stored path) fault → ⊥

-- The source under the name is there, and has no fault. Nor has that of any name that is asked for, where it is there.
pub record AreFaultless (level : ℕ) (files : FileOf) (name : List ℕ) : Type 0 where
  pub text : List ℕ
  pub there : files name ≡ Some text
  pub none : IsFaultless level name text
  pub others : (main : Source) → IsReading level text (stored name) main
      → (asked : Name) → IsSourceAsked level files (base_of name) main asked
      → (file : NamedFile) → source_file files (base_of name) asked ≡ Some file → IsFaultless level file.0 file.1

-- loading the library of the source under the name comes to no source that passes a limit
abbrev pub SourcesKeepLimits : (level : ℕ) → FileOf → (name : List ℕ) → Type 0
SourcesKeepLimits level files name = (limit : Limit) → SourceLoadsOf level (Some files) name (Past limit) → ⊥

-- loading the library of the file under the name comes to no file that passes a limit
abbrev pub FilesKeepLimits : FileOf → (name : List ℕ) → Type 0
FilesKeepLimits files name = (limit : Limit) → LoadsOf (Some files) name (Past limit) → ⊥
