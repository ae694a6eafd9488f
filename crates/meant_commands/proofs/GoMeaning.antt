-- What the run of a source that has ended says of the program of the sources.
use Rattle.std.proofs.Common.{◌≡◌, ◌⊎◌, inl, inr, ℕ, List, Option, Some, None, refl, sym, subst, ◌∙◌}
use Rattle.std.specs.Prelude.{Ok, IfSome}
use Rattle.meant_files.specs.mpy_base.declared.room.Room.{Room}
use Rattle.meant_files.specs.mpy_io.Files.{FileOf}
use Rattle.meant_files.specs.mpy_io.Ports.{PortView}
use Rattle.library_files.specs.bc_library.Shelf.{Shelf}
use Rattle.meant_files.specs.py_meaning.Program.{Program}
use Rattle.meant_files.specs.meant_runs.Units.{AreUnits}
use Rattle.file_commands.specs.mpy_compile.Compiled.{CompilesTo}
use Rattle.library_files.specs.bc_library.mpy_tree.File.{IsFile}
use Rattle.library_files.specs.bc_library.mpy_tree.Raw.{Module}
use Rattle.library_files.specs.Loads.{Loaded, main_name}
use Rattle.meant_files.specs.source_files.Sources.{stored}
use Rattle.meant_files.specs.Sources.{IsProgramOfSources}
use Rattle.meant_files.specs.Libraries.{IsOfSources, IsOfFiles}
use Rattle.run_commands.specs.mpy_endings.declared.ending.Ending.{Ending}
use Rattle.run_commands.specs.mpy_endings.declared.ending.Ending.TheVariants.{Done, Unaccepted, Unread, Unverified, Unmerged, Unopened, Unfrozen, Unboarded, Different, Stopped, ReadFault, WriteFault, Unwritten, NoMemory, Absent}
use Rattle.run_commands.specs.mpy_endings.declared.ending.Stop.TheVariants as stops
use Rattle.run_commands.specs.Base.{base_of}
use Rattle.run_commands.specs.mpy_endings.Ending.{status_of, IsRunStatus}
use Rattle.run_commands.specs.Go.{SourceLoadsOf}
use Rattle.run_commands.specs.Ready.{GoLibrary, RunLibrary}
use Rattle.meant_commands.specs.Meant.{HoldsProgram, RunMeans}
use Rattle.meant_commands.specs.GoMeant.{MeansSources, GoMeans, HoldsCrossed}
use Rattle.run_commands.specs.command_files.Outside.{Outside}
use Rattle.run_commands.specs.Run.{FileLibrary, Runs, EndsRun, sight_in}
use Rattle.meant_commands.proofs.Meaning.{file_holds}

-- what is known of libraries of sources
pub record OfSources : Type 0 where
  pub program : (files : FileOf) (base path : List ℕ) (level : ℕ) (shelf : Shelf) → IsOfSources files base path level shelf
      → (program : Program) × IsProgramOfSources files base path level program
  pub units : (files : FileOf) (base path : List ℕ) (level : ℕ) (shelf : Shelf) → IsOfSources files base path level shelf
      → (program : Program) → IsProgramOfSources files base path level program → AreUnits program shelf

-- the library that was loaded, in a folder that tells its files
of_loads : (level : ℕ) (name : List ℕ) (files : FileOf) (shelf : Shelf) → SourceLoadsOf level (Some files) name (Loaded shelf) → IsOfSources files (base_of name) name level shelf
of_loads level name files shelf h = record {
  main = h.main;
  size = h.size;
  holds = record { text = h.holds.source; there = h.holds.holds; is_module = h.holds.is };
  loads = h.loads;
}

abbrev HasRun : ℕ → Type 0
HasRun status = IsRunStatus status ⊎ (status ≡ 8)

-- a run was made with these statuses alone
not_made : (n : ℕ) → (n ≡ 0 → ⊥) → (n ≡ 1 → ⊥) → (n ≡ 5 → ⊥) → (n ≡ 6 → ⊥) → (n ≡ 8 → ⊥) → HasRun n → ⊥
not_made n a b c d f (inl (inl e)) = a e
not_made n a b c d f (inl (inr (inl e))) = b e
not_made n a b c d f (inl (inr (inr (inl e)))) = c e
not_made n a b c d f (inl (inr (inr (inr e)))) = d e
not_made n a b c d f (inr e) = f e

module _ (o : OfSources) (level : ℕ) (room : Room) (steps : ℕ) (name : List ℕ) (old new : Outside) (ports_old ports_new : List PortView) (status : ℕ) where
  abbrev HasProgram : FileOf → Type 0
  HasProgram files = (program : Program) × IsProgramOfSources files (base_of name) name level program

  program_of : (files : FileOf) (shelf : Shelf) → SourceLoadsOf level (Some files) name (Loaded shelf) → HasProgram files
  program_of files shelf h = o.program files (base_of name) name level shelf (of_loads level name files shelf h)

  abbrev Went : FileOf → List ℕ → Ending → Type 0
  Went files said ending = Runs (GoLibrary level (Some files) name) room steps (sight_in old ports_old) (sight_in new ports_new) said ending

  none : (files : FileOf) (n : ℕ) → (n ≡ 0 → ⊥) → (n ≡ 1 → ⊥) → (n ≡ 5 → ⊥) → (n ≡ 6 → ⊥) → (n ≡ 8 → ⊥) → status ≡ n → HasRun status → HasProgram files
  none files n a b c d f is made = absurd (not_made n a b c d f (subst HasRun is made))

  program_by : (files : FileOf) (said : List ℕ) (ending : Ending) → status ≡ status_of ending → Went files said ending → HasRun status → HasProgram files
  program_by files said Done is h made = program_of files h.0.library h.1.0
  program_by files said (Stopped stops.Raised) is h made = program_of files h.0.library h.1.0
  program_by files said (Stopped stops.Memory) is h made = program_of files h.0.library h.1.0
  program_by files said (Stopped (stops.Steps count)) is h made = program_of files h.0.0.library h.0.1.0
  program_by files said (Stopped stops.Unsaved) is h made = absurd h
  program_by files said (Stopped (stops.Unresumed fault)) is h made = absurd h
  program_by files said WriteFault is h made = program_of files h.0.library h.1.0
  program_by files said (Stopped (stops.Past limit)) is h made = none files 11 (λ e. absurd cc) (λ e. absurd cc) (λ e. absurd cc) (λ e. absurd cc) (λ e. absurd cc) is made
  program_by files said (Stopped (stops.LibraryUnaccepted source)) is h made = none files 3 (λ e. absurd cc) (λ e. absurd cc) (λ e. absurd cc) (λ e. absurd cc) (λ e. absurd cc) is made
  program_by files said (Stopped (stops.LibraryFault path)) is h made = none files 7 (λ e. absurd cc) (λ e. absurd cc) (λ e. absurd cc) (λ e. absurd cc) (λ e. absurd cc) is made
  program_by files said (Unaccepted fault) is h made = none files 3 (λ e. absurd cc) (λ e. absurd cc) (λ e. absurd cc) (λ e. absurd cc) (λ e. absurd cc) is made
  program_by files said (Unread fault) is h made = none files 4 (λ e. absurd cc) (λ e. absurd cc) (λ e. absurd cc) (λ e. absurd cc) (λ e. absurd cc) is made
  program_by files said (Unverified fault) is h made = none files 4 (λ e. absurd cc) (λ e. absurd cc) (λ e. absurd cc) (λ e. absurd cc) (λ e. absurd cc) is made
  program_by files said (Unmerged fault) is h made = absurd h
  program_by files said (Unopened fault) is h made = absurd h.0
  program_by files said (Unfrozen fault) is h made = absurd h
  program_by files said (Unboarded fault) is h made = absurd h
  program_by files said (Different difference) is h made = absurd h
  program_by files said ReadFault is h made = none files 7 (λ e. absurd cc) (λ e. absurd cc) (λ e. absurd cc) (λ e. absurd cc) (λ e. absurd cc) is made
  program_by files said Unwritten is h made = absurd h
  program_by files said NoMemory is h made = none files 9 (λ e. absurd cc) (λ e. absurd cc) (λ e. absurd cc) (λ e. absurd cc) (λ e. absurd cc) is made
  program_by files said Absent is h made = none files 10 (λ e. absurd cc) (λ e. absurd cc) (λ e. absurd cc) (λ e. absurd cc) (λ e. absurd cc) is made

  pub go_means : EndsRun (GoLibrary level) room steps name old new ports_old ports_new status → RunMeans (GoLibrary level) room steps name old new ports_old ports_new status
      → GoMeans level room steps name old new ports_old ports_new status
  go_means ended run_means = by old.files refl
    where
      by : (files : Option FileOf) → old.files ≡ files → IfSome files (MeansSources level room steps name old new ports_old ports_new status)
      by None e = tt
      by (Some files) e = record {
        has_program = program_by files ended.said ended.ending ended.status_is
            (subst (λ (f : Option FileOf). Runs (GoLibrary level f name) room steps (sight_in old ports_old) (sight_in new ports_new) ended.said ended.ending) e ended.went);
        means = λ program is.
            run_means program (λ ready loads. (
              is.main_name_is ∙ sym loads.1.main_is,
              o.units files (base_of name) name level ready.library
                  (of_loads level name files ready.library (subst (λ (f : Option FileOf). SourceLoadsOf level f name (Loaded ready.library)) e loads.0)) program is,
            ));
      }

-- files that sources compile to
-- =============================

module _ (law : (sources files : FileOf) (base path : List ℕ) (level : ℕ) (shelf : Shelf) → IsOfFiles sources files base path level shelf
    → (program : Program) → IsProgramOfSources sources base path level program → AreUnits program shelf) where
  crossed_library : (sources files : FileOf) (path name : List ℕ) (level : ℕ) (program : Program) → HoldsCrossed sources files path name level
      → IsProgramOfSources sources (base_of name) path level program → (shelf : Shelf) → FileLibrary (Some files) name (Ok shelf) → (program.main_name ≡ main_name) × AreUnits program shelf
  crossed_library sources files path name level program h is shelf loads =
      let same : loads.holds.bytes ≡ h.bytes = by_some (sym loads.holds.holds ∙ h.written) in
      let compiles : CompilesTo level h.text (stored path) loads.holds.bytes = subst (CompilesTo level h.text (stored path)) (sym same) h.compiles in
      let of_files : IsOfFiles sources files (base_of name) path level shelf = record {
        main = loads.main;
        size = loads.size;
        holds = record {
          text = h.text;
          there = h.there;
          is_module = record { bytes = loads.holds.bytes; compiles = compiles; is = record { file = loads.holds.file; verified = loads.holds.verified }; size_is = loads.holds.size_is };
        };
        crossed = h.crossed;
        loads = loads.loads;
      } in
      (is.main_name_is, law sources files (base_of name) path level shelf of_files program is)
    where
      by_some : {a b : List ℕ} → Some a ≡ Some b → a ≡ b
      by_some e = cc

  pub holds_crossed : (sources files : FileOf) (path name main : List ℕ) (level : ℕ) (below : Shelf) (program : Program) → HoldsCrossed sources files path name level
      → IsProgramOfSources sources (base_of name) path level program → HoldsProgram (RunLibrary below main) (Some files) name program
  holds_crossed sources files path name main level below program h is =
      file_holds below files name main program (crossed_library sources files path name level program h is)
      (λ bytes there. let same : h.bytes ≡ bytes = by_some (sym h.written ∙ there) in subst (λ (b : List ℕ). (m : Module) × IsFile b m) same (h.compiles.file.reads.reads.0, h.compiles.file.reads.reads.1))
    where
      by_some : {a b : List ℕ} → Some a ≡ Some b → a ≡ b
      by_some e = cc
