-- Which library a source has.
use Rattle.std.specs.Prelude.{ℕ, List, Contains, Option, Some, None, IfSome, Result, Ok, Err}
use Rattle.mpy_io.specs.Files.{FileOf}
use Rattle.bc_library.specs.mpy_tree.Raw.{Module}
use Rattle.bc_library.specs.Shelf.{Shelf}
use Rattle.command_files.specs.pkg_paths.Plain.{IsPlain}
use Rattle.command_files.specs.pkg_paths.Paths.{candidates}
use Rattle.command_files.specs.mpy_compile.Compiled.{IsFault}
use Rattle.library_files.specs.declared.limit.UnacceptedSource.{UnacceptedSource}
use Rattle.library_files.specs.Loads as loads
use Rattle.library_files.specs.Loads.{Loading, Loaded}
use Rattle.command_files.specs.source_files.Sources.{stored, source_ending, IsModuleOf, LoadsFromSources}
use Rattle.command_files.specs.mpy_endings.declared.ending.Ending.{Ending}
use Rattle.command_files.specs.mpy_endings.declared.ending.Ending.TheVariants.{Done, Unaccepted, Unread, Unverified, Unmerged}
use Rattle.command_files.specs.mpy_endings.declared.ending.Ending.TheVariants.{Unopened, Unfrozen, Unboarded, Different, Stopped}
use Rattle.command_files.specs.mpy_endings.declared.ending.Ending.TheVariants.{ReadFault, WriteFault, Unwritten, NoMemory, Absent}
use Rattle.command_files.specs.mpy_endings.declared.ending.Stop.TheVariants.{Past, LibraryFault, LibraryUnaccepted, Raised, Memory, Steps, Unsaved, Unresumed}
use Rattle.run_commands.specs.Base.{base_of}
use Rattle.command_files.specs.Source.{HoldsFaulty}
use Rattle.command_files.specs.Folder.{MayHold}

-- the source under the name compiles at the level to a file of this verified module, which has `size` bytes
pub record HoldsSource (level : ℕ) (files : Option FileOf) (name : List ℕ) (m : Module) (size : ℕ) : Type 0 where
  pub source : List ℕ
  pub holds : MayHold files name (Some source)
  pub is : IsModuleOf level name source m size

-- loading the library of the source under the name, from the sources of its folder, ends so
pub record SourceLoadsOf (level : ℕ) (files : Option FileOf) (name : List ℕ) (end : Loading) : Type 0 where
  pub main : Module
  pub size : ℕ
  pub holds : HoldsSource level files name main size
  pub loads : IfSome files (λ file. LoadsFromSources level file (base_of name) main size end)

-- the path is one that a plain name may have in the folder of the source of this name
abbrev pub IsOfSources : (name path : List ℕ) → Type 0
IsOfSources name path = (module_name : List ℕ) × IsPlain module_name × Contains (candidates (base_of name) module_name source_ending) path

-- the source of that path is one of these, and has this first fault
pub record IsFaultyOf (level : ℕ) (name : List ℕ) (unaccepted : UnacceptedSource) : Type 0 where
  pub is_of : IsOfSources name unaccepted.path
  pub source : List ℕ
  pub is : IsFault level source (stored unaccepted.path) unaccepted.fault

-- why the library of the source under the name isn't loaded
abbrev pub RefusesSources : (level : ℕ) → Option FileOf → (name : List ℕ) → Ending → Type 0
RefusesSources level files name Done = ⊥
RefusesSources level files name (Unaccepted fault) = HoldsFaulty level files name (stored name) fault
RefusesSources level files name (Unread fault) = ⊥
RefusesSources level files name (Unverified fault) = ⊥
RefusesSources level files name (Unmerged fault) = ⊥
RefusesSources level files name (Unopened fault) = ⊥
RefusesSources level files name (Unfrozen fault) = ⊥
RefusesSources level files name (Unboarded fault) = ⊥
RefusesSources level files name (Different difference) = ⊥
RefusesSources level files name (Stopped (Past limit)) = SourceLoadsOf level files name (loads.Past limit)
RefusesSources level files name (Stopped (LibraryFault path)) = IsOfSources name path
RefusesSources level files name (Stopped (LibraryUnaccepted source)) = SourceLoadsOf level files name (loads.Unaccepted source) × IsFaultyOf level name source
RefusesSources level files name (Stopped Raised) = ⊥
RefusesSources level files name (Stopped Memory) = ⊥
RefusesSources level files name (Stopped (Steps count)) = ⊥
RefusesSources level files name (Stopped Unsaved) = ⊥
RefusesSources level files name (Stopped (Unresumed fault)) = ⊥
RefusesSources level files name ReadFault = Unit {0}
RefusesSources level files name WriteFault = ⊥
RefusesSources level files name Unwritten = ⊥
RefusesSources level files name NoMemory = Unit {0}
RefusesSources level files name Absent = MayHold files name None

-- what loading the library of the source under the name comes to: the library, or why it isn't loaded
abbrev pub SourceLibrary : (level : ℕ) → Option FileOf → (name : List ℕ) → Result Shelf Ending → Type 0
SourceLibrary level files name (Ok shelf) = SourceLoadsOf level files name (Loaded shelf)
SourceLibrary level files name (Err ending) = RefusesSources level files name ending
