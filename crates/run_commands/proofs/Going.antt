-- What loading the library of a source comes to, from its parts.
use Rattle.std.proofs.Common.{◌≡◌, ℕ, List, Option, Some, IfSome, Err, refl, subst}
use Rattle.mpy_base.specs.declared.refused.Refused.{Refused}
use Rattle.mpy_base.specs.declared.refused.Refused.TheVariants as refused
use Rattle.mpy_base.specs.declared.source.SourceFault.{SourceFault}
use Rattle.mpy_base.specs.Fault.{too_long}
use Rattle.mpy_io.specs.declared.fault.ReadFault.{ReadFault as FolderFault}
use Rattle.mpy_io.specs.declared.fault.ReadFault.TheVariants.{TooLong}
use Rattle.mpy_io.specs.Files.{FileOf, Reads}
use Rattle.bc_library.specs.mpy_tree.Raw.{Module}
use Rattle.bc_library.specs.Shelf.{Shelf}
use Rattle.library_files.specs.declared.limit.LoadFault.{LoadFault}
use Rattle.library_files.specs.declared.limit.LoadFault.TheVariants as faults
use Rattle.library_files.specs.Ends.{EndsIn, FailsAmong}
use Rattle.library_files.specs.Loads as loads
use Rattle.library_files.specs.Loads.{Loading}
use Rattle.command_files.specs.source_files.Sources.{stored, source_ending, IsModuleOf, SourceComesTo, LoadsFromSources}
use Rattle.command_files.specs.mpy_endings.declared.ending.Ending.{Ending}
use Rattle.command_files.specs.mpy_endings.declared.ending.Ending.TheVariants.{Done, Unaccepted, Unread, Unverified, Unmerged, Unopened, Unfrozen, Unboarded, Different, Stopped, ReadFault, WriteFault, Unwritten, NoMemory, Absent}
use Rattle.command_files.specs.mpy_endings.declared.ending.Stop.TheVariants.{Past, LibraryFault, LibraryUnaccepted, Raised, Memory, Steps, Unsaved, Unresumed}
use Rattle.run_commands.specs.Base.{base_of}
use Rattle.command_files.specs.Folder.{MayHold}
use Rattle.run_commands.specs.Go.{HoldsSource, SourceLoadsOf, RefusesSources}
use Rattle.run_commands.specs.Run.{IsUnloaded, load_end}
use Rattle.command_files.proofs.Long.{long_source}

-- the main source
-- ===============

pub source_from : (level : ℕ) (files : Option FileOf) (name path source read : List ℕ) (m : Module) (size : ℕ) → path ≡ name → read ≡ source → MayHold files name (Some source) → IsModuleOf level path read m size
    → HoldsSource level files name m size
source_from level files name path source read m size p r holds is = record {
  source = source;
  holds = holds;
  is = subst (λ (s : List ℕ). IsModuleOf level name s m size) r (subst (λ (n : List ℕ). IsModuleOf level n read m size) p is);
}

pub long_refused : (level : ℕ) (files : Option FileOf) (name : List ℕ) (fault : FolderFault) (said : SourceFault) → fault ≡ TooLong → said ≡ too_long → IfSome files (λ file. Reads (file name) (Err fault))
    → RefusesSources level files name (Unaccepted said)
long_refused level files name fault said e f h = (long_source level files files name (stored name) fault said e f h refl).0

-- its library
-- ===========

pub source_loads_of : (level : ℕ) (files now : Option FileOf) (name base : List ℕ) (main : Module) (size : ℕ) (end : Loading) → now ≡ files → base ≡ base_of name → HoldsSource level files name main size
    → IfSome now (λ file. LoadsFromSources level file base main size end) → SourceLoadsOf level files name end
source_loads_of level files now name base main size end e b holds loads = record {
  main = main;
  size = size;
  holds = holds;
  loads = subst (λ (bs : List ℕ). IfSome files (λ file. LoadsFromSources level file bs main size end)) b (subst (λ (fs : Option FileOf). IfSome fs (λ file. LoadsFromSources level file base main size end)) e loads);
}

module _ (level : ℕ) (files now : Option FileOf) (name base : List ℕ) (main : Module) (size : ℕ) (e : now ≡ files) (b : base ≡ base_of name) (holds : HoldsSource level files name main size) where
  abbrev Fails : Refused LoadFault → Type 0
  Fails r = FailsAmong {A = Shelf} source_ending (SourceComesTo level) base (Err r)

  at_name : (r : Refused LoadFault) → Fails r → FailsAmong {A = Shelf} source_ending (SourceComesTo level) (base_of name) (Err r)
  at_name r at = subst (λ (bs : List ℕ). FailsAmong {A = Shelf} source_ending (SourceComesTo level) bs (Err r)) b at

  pub sources_refused : (r : Refused LoadFault) → IfSome now (λ file. EndsIn (LoadsFromSources level file base main size) (Err r)) → Fails r → RefusesSources level files name (load_end r)
  sources_refused (refused.Fault (faults.Past limit)) h at = source_loads_of level files now name base main size (loads.Past limit) e b holds h
  sources_refused (refused.Fault (faults.Failed read)) h at = at_name (refused.Fault (faults.Failed read)) at
  sources_refused (refused.Fault (faults.Unaccepted source)) h at =
      let there = at_name (refused.Fault (faults.Unaccepted source)) at in
      (source_loads_of level files now name base main size (loads.Unaccepted source) e b holds h, record { is_of = (there.0, there.1, there.2); source = there.3; is = there.4 })
  sources_refused refused.NoMemory h at = tt

pub sources_unloaded : (level : ℕ) (files : Option FileOf) (name : List ℕ) (ending : Ending) → RefusesSources level files name ending → IsUnloaded ending
sources_unloaded level files name Done h = absurd h
sources_unloaded level files name (Unaccepted fault) h = tt
sources_unloaded level files name (Unread fault) h = tt
sources_unloaded level files name (Unverified fault) h = tt
sources_unloaded level files name (Unmerged fault) h = absurd h
sources_unloaded level files name (Unopened fault) h = absurd h
sources_unloaded level files name (Unfrozen fault) h = absurd h
sources_unloaded level files name (Unboarded fault) h = absurd h
sources_unloaded level files name (Different difference) h = absurd h
sources_unloaded level files name (Stopped (Past limit)) h = tt
sources_unloaded level files name (Stopped (LibraryFault path)) h = tt
sources_unloaded level files name (Stopped (LibraryUnaccepted source)) h = tt
sources_unloaded level files name (Stopped Raised) h = absurd h
sources_unloaded level files name (Stopped Memory) h = absurd h
sources_unloaded level files name (Stopped (Steps count)) h = absurd h
sources_unloaded level files name (Stopped Unsaved) h = absurd h
sources_unloaded level files name (Stopped (Unresumed fault)) h = absurd h
sources_unloaded level files name ReadFault h = tt
sources_unloaded level files name WriteFault h = absurd h
sources_unloaded level files name Unwritten h = absurd h
sources_unloaded level files name NoMemory h = tt
sources_unloaded level files name Absent h = tt
