-- What a run of files says of their program.
use Rattle.std.proofs.Common.{◌≡◌, ◌⊎◌, inl, inr, ℕ, Bool, true, false, ◌||◌, eqb, List, Option, Some, None, refl, sym, ap, subst, ◌∙◌}
use Rattle.std.specs.Prelude.{IfSome, Result, Ok}
use Rattle.mpy_base.specs.declared.room.Room.{Room}
use Rattle.mpy_io.specs.Files.{FileOf}
use Rattle.mpy_io.specs.Ports.{PortView}
use Rattle.bc_library.specs.Shelf.{Shelf}
use Rattle.py_meaning.specs.Program.{Unit, Program}
use Rattle.mpy_endings.specs.declared.ending.Ending.{Ending}
use Rattle.mpy_endings.specs.declared.ending.Ending.TheVariants.{Done, Unaccepted, Unread, Unverified, Unmerged, Unopened, Unfrozen, Unboarded, Different, Stopped, ReadFault, WriteFault, Unwritten, NoMemory, Absent}
use Rattle.mpy_endings.specs.declared.ending.Stop.TheVariants.{Past, LibraryFault, LibraryUnaccepted, Raised, Memory, Steps, Unsaved, Unresumed}
use Rattle.image_runs.specs.declared.fault.MainFault.TheVariants as mains
use Rattle.mpy_endings.specs.Ending.{IsRunStatus, status_of}
use Rattle.command_files.specs.Outside.{Outside}
use Rattle.meant_commands.specs.run_commands.library_runs.Runs.{Sight}
use Rattle.meant_commands.specs.run_commands.declared.ready.Ready.{Ready}
use Rattle.meant_commands.specs.run_commands.Ready.{RunLibrary}
use Rattle.meant_commands.specs.run_commands.Run.{EndsRun, Runs}
use Rattle.meant_commands.specs.run_commands.Save.{EndsRunTo, RunsSaving}
use Rattle.meant_commands.specs.Meant.{HoldsProgram, RunMeans}
use Rattle.tool_laws.specs.Programs.{AreProgramFiles, IsProgramOfFiles, MeansFiles, RunMeansFiles}

-- statuses with which a library was run
-- =====================================

abbrev HasRun : ℕ → Type 0
HasRun status = IsRunStatus status ⊎ (status ≡ 8)

abbrev has_run : ℕ → Bool
has_run status = eqb status 0 || (eqb status 1 || (eqb status 5 || (eqb status 6 || eqb status 8)))

was_run : (status : ℕ) → HasRun status → has_run status ≡ true
was_run status (inl (inl e)) = ap has_run e
was_run status (inl (inr (inl e))) = ap has_run e
was_run status (inl (inr (inr (inl e)))) = ap has_run e
was_run status (inl (inr (inr (inr e)))) = ap has_run e
was_run status (inr e) = ap has_run e

module _ (Comes : Result Ready Ending → Type 0) (room : Room) (steps : ℕ) (old new : Sight) (said : List ℕ) (status : ℕ) where
  abbrev HasReady : Type 0
  HasReady = (ready : Ready) × Comes (Ok ready)

  not_run : (n : ℕ) → has_run n ≡ false → status ≡ n → HasRun status → HasReady
  not_run n other is run = absurd (let wrong : true ≡ false = sym (was_run status run) ∙ (ap has_run is ∙ other) in cc)

  ready_of : (ending : Ending) → status ≡ status_of ending → Runs Comes room steps old new said ending → HasRun status
      → HasReady
  ready_of Done is h run = (h.0, h.1)
  ready_of (Stopped Raised) is h run = (h.0, h.1)
  ready_of (Stopped Memory) is h run = (h.0, h.1)
  ready_of (Stopped (Steps count)) is h run = (h.0.0, h.0.1)
  ready_of (Stopped Unsaved) is h run = absurd h
  ready_of (Stopped (Unresumed fault)) is h run = absurd h
  ready_of WriteFault is h run = (h.0, h.1)
  ready_of (Stopped (Past limit)) is h run = not_run 11 refl is run
  ready_of (Stopped (LibraryFault path)) is h run = not_run 7 refl is run
  ready_of (Stopped (LibraryUnaccepted source)) is h run = not_run 3 refl is run
  ready_of (Unaccepted fault) is h run = not_run 3 refl is run
  ready_of (Unread fault) is h run = not_run 4 refl is run
  ready_of (Unverified fault) is h run = not_run 4 refl is run
  ready_of (Unmerged fault) is h run = absurd h
  ready_of (Unopened (mains.Image fault)) is h run = not_run 4 refl is run
  ready_of (Unopened (mains.NoMain main)) is h run = not_run 10 refl is run
  ready_of (Unfrozen fault) is h run = absurd h
  ready_of (Unboarded fault) is h run = absurd h
  ready_of (Different difference) is h run = absurd h
  ready_of ReadFault is h run = not_run 7 refl is run
  ready_of Unwritten is h run = absurd h
  ready_of NoMemory is h run = not_run 9 refl is run
  ready_of Absent is h run = not_run 10 refl is run

  saving_ready : (snap : List ℕ) (files_old files_new : Option FileOf) (ending : Ending) → status ≡ status_of ending
      → RunsSaving Comes room steps old new said snap files_old files_new ending → HasRun status → HasReady
  saving_ready snap files_old files_new Done is h run = ready_of Done is h.0 run
  saving_ready snap files_old files_new (Stopped Raised) is h run = ready_of (Stopped Raised) is h.0 run
  saving_ready snap files_old files_new (Stopped Memory) is h run = ready_of (Stopped Memory) is h.0 run
  saving_ready snap files_old files_new (Stopped (Steps count)) is h run = (h.0.ready, h.0.comes)
  saving_ready snap files_old files_new (Stopped Unsaved) is h run = (h.0.ready, h.0.comes)
  saving_ready snap files_old files_new (Stopped (Unresumed fault)) is h run = absurd h.0
  saving_ready snap files_old files_new (Stopped (Past limit)) is h run = not_run 11 refl is run
  saving_ready snap files_old files_new (Stopped (LibraryFault path)) is h run = not_run 7 refl is run
  saving_ready snap files_old files_new (Stopped (LibraryUnaccepted source)) is h run = not_run 3 refl is run
  saving_ready snap files_old files_new (Unaccepted fault) is h run = not_run 3 refl is run
  saving_ready snap files_old files_new (Unread fault) is h run = not_run 4 refl is run
  saving_ready snap files_old files_new (Unverified fault) is h run = not_run 4 refl is run
  saving_ready snap files_old files_new (Unmerged fault) is h run = absurd h.0
  saving_ready snap files_old files_new (Unopened fault) is h run = ready_of (Unopened fault) is h.0 run
  saving_ready snap files_old files_new (Unfrozen fault) is h run = absurd h.0
  saving_ready snap files_old files_new (Unboarded fault) is h run = absurd h.0
  saving_ready snap files_old files_new (Different difference) is h run = absurd h.0
  saving_ready snap files_old files_new ReadFault is h run = not_run 7 refl is run
  saving_ready snap files_old files_new WriteFault is h run = ready_of WriteFault is h.0 run
  saving_ready snap files_old files_new Unwritten is h run = (h.ready, h.comes)
  saving_ready snap files_old files_new NoMemory is h run = not_run 9 refl is run
  saving_ready snap files_old files_new Absent is h run = not_run 10 refl is run

-- what a run means
-- ================

-- what is known of programs of files
pub record OfFiles : Type 0 where
  pub program : (below : Shelf) (main : List ℕ) (files : FileOf) (name : List ℕ) (unit : Unit) (ready : Ready)
      → AreProgramFiles files name unit → RunLibrary below main (Some files) name (Ok ready)
      → (program : Program) × (program.main ≡ unit) × IsProgramOfFiles files name program
  pub holds : (below : Shelf) (main : List ℕ) (files : FileOf) (name : List ℕ) (program : Program)
      → IsProgramOfFiles files name program → HoldsProgram (RunLibrary below main) (Some files) name program

module _ (o : OfFiles) (below : Shelf) (main : List ℕ) (room : Room) (steps : ℕ) (name : List ℕ) (old new : Outside) (ports_old ports_new : List PortView) (status : ℕ) where
  means_by : RunMeans (RunLibrary below main) room steps name old new ports_old ports_new status
      → (HasRun status → (ready : Ready) × RunLibrary below main old.files name (Ok ready))
      → RunMeansFiles room steps name old new ports_old ports_new status
  means_by means ready = by old.files refl
    where
      by : (files : Option FileOf) → old.files ≡ files
          → IfSome files (MeansFiles room steps name old new ports_old ports_new status)
      by None e = tt
      by (Some files) e = record {
        has_program = λ unit are run.
            let found = ready run in
            o.program below main files name unit found.0 are (subst (λ (f : Option FileOf). RunLibrary below main f name (Ok found.0)) e found.1);
        means = λ program is.
            means program (subst (λ (f : Option FileOf). HoldsProgram (RunLibrary below main) f name program) (sym e) (o.holds below main files name program is));
      }

  pub run_means : RunMeans (RunLibrary below main) room steps name old new ports_old ports_new status
      → EndsRun (RunLibrary below main) room steps name old new ports_old ports_new status
      → RunMeansFiles room steps name old new ports_old ports_new status
  run_means means ended =
      means_by means (ready_of (RunLibrary below main old.files name) room steps _ _ ended.said status ended.ending ended.status_is ended.went)

  pub run_to_means : (snap : Option (List ℕ))
      → RunMeans (RunLibrary below main) room steps name old new ports_old ports_new status
      → EndsRunTo snap (RunLibrary below main) room steps name old new ports_old ports_new status
      → RunMeansFiles room steps name old new ports_old ports_new status
  run_to_means None means ended = run_means means ended
  run_to_means (Some snap) means ended =
      means_by means (saving_ready (RunLibrary below main old.files name) room steps _ _ ended.said status snap old.files new.files ended.ending ended.status_is ended.went)
