-- Runs whose state is saved where they take all their steps and don't end.
use Rattle.std.specs.Prelude.{◌≡◌, ◌⊎◌, ◌++◌, ℕ, ◌^◌, ◌<◌, ◌≤◌, Bool, true, false, List, length, Option, Some, None, Result, Ok}
use Rattle.mpy_base.specs.declared.limits.TheConstants.{MAX_CALLS}
use Rattle.mpy_base.specs.declared.room.Room.{Room}
use Rattle.mpy_io.specs.Count.{Counts}
use Rattle.mpy_io.specs.Files.{FileOf, Becomes, BecomesFront}
use Rattle.mpy_io.specs.Ports.{PortView}
use Rattle.bc_library.specs.Shelf.{Shelf}
use Rattle.snap_grammar.specs.Spelling.{Fits}
use Rattle.snap_loading.specs.Saved.{IsHeld}
use Rattle.snap_saving.specs.Saved.{IsTooBig}
use Rattle.snap_saving.specs.Shown.{IsSnapshotOf, snapshot_of}
use Rattle.library_runs.specs.vm_starting.declared.opening.Vm.{Vm}
use Rattle.library_runs.specs.declared.ending.RunEnd.TheVariants as ends
use Rattle.library_runs.specs.Runs.{Sight, RunsAs, StandsAt}
use Rattle.command_files.specs.mpy_endings.declared.ending.Ending.{Ending}
use Rattle.command_files.specs.mpy_endings.declared.ending.Ending.TheVariants.{Stopped, Unwritten, NoMemory}
use Rattle.command_files.specs.mpy_endings.declared.ending.Stop.TheVariants.{Steps, Unsaved}
use Rattle.command_files.specs.mpy_endings.Ending.{is_folder_fault, is_out_fault, status_of}
use Rattle.command_files.specs.mpy_endings.Line.{Says, line_of, name_in}
use Rattle.command_files.specs.Outside.{Outside}
use Rattle.run_commands.specs.declared.ready.Ready.{Ready}
use Rattle.run_commands.specs.Run.{EndsRun, Runs, Untouched, sight_in}

-- whether the snapshot wasn't written
abbrev pub is_unwritten : Ending → Bool
is_unwritten Unwritten = true
is_unwritten _ = false

-- the bytes are the snapshot of a machine's state, which has one
pub record IsSaved (bytes : List ℕ) (shelf : Shelf) (vm : Vm) : Type 0 where
  pub is : IsSnapshotOf shelf vm.arena vm.modules vm.frames.calls vm.paid bytes
  pub fits : Fits (snapshot_of shelf vm.arena vm.modules vm.frames.calls vm.paid)
  pub few_bytes : length bytes ≤ 4194304
  pub few_steps : vm.paid < 2 ^ 63
  pub few_calls : length vm.frames.calls ≤ MAX_CALLS
  pub held : IsHeld vm

-- a machine's state has no snapshot
abbrev pub HasNone : Shelf → Vm → Type 0
HasNone shelf vm = IsTooBig shelf vm.arena vm.modules vm.frames.calls vm.paid

module _ (snap : List ℕ) (files_old files_new : Option FileOf) where
  -- the file of this name has the snapshot of a machine's state, and no other changed
  abbrev pub Saved : Shelf → Vm → Type 0
  Saved shelf vm = (bytes : List ℕ) × IsSaved bytes shelf vm × Becomes files_old files_new snap bytes

  -- it has a front of that, or no file changed
  abbrev pub SavedFront : Shelf → Vm → Type 0
  SavedFront shelf vm = (bytes : List ℕ) × IsSaved bytes shelf vm × BecomesFront files_old files_new snap bytes

  -- what became of the snapshot of a machine's state that took these steps
  abbrev pub SavesState : Shelf → Vm → (steps : ℕ) → Ending → Type 0
  SavesState shelf vm steps (Stopped (Steps count)) = Saved shelf vm × (count ≡ steps)
  SavesState shelf vm steps (Stopped Unsaved) = HasNone shelf vm × (files_new ≡ files_old)
  SavesState shelf vm steps Unwritten = SavedFront shelf vm
  SavesState shelf vm steps NoMemory = files_new ≡ files_old
  SavesState shelf vm steps _ = ⊥

-- where the relation tells what loading the library comes to
module _ (Comes : Result Ready Ending → Type 0) (room : Room) (steps : ℕ) (old new : Sight) (said : List ℕ) where
  -- the library was run, its run took all its steps and didn't end, and the machine that stands there is related so to what became of its
  -- snapshot
  pub record Suspends (Saves : Shelf → Vm → Type 0) : Type 0 where
    pub ready : Ready
    pub comes : Comes (Ok ready)
    pub runs : RunsAs ready.library ready.main room steps old new ends.Limit said
    pub vm : Vm
    pub stands : StandsAt ready.library ready.main room steps old new vm
    pub saves : Saves ready.library vm

  -- How a run ended whose state is saved to the file of this name where it takes all its steps, and what the files became. Where it ends
  -- otherwise, no file changes.
  abbrev pub RunsSaving : (snap : List ℕ) → (files_old files_new : Option FileOf) → Ending → Type 0
  RunsSaving snap files_old files_new (Stopped (Steps count)) = Suspends (Saved snap files_old files_new) × (count ≡ steps)
  RunsSaving snap files_old files_new (Stopped Unsaved) = Suspends HasNone × (files_new ≡ files_old)
  RunsSaving snap files_old files_new Unwritten = Suspends (SavedFront snap files_old files_new)
  RunsSaving snap files_old files_new NoMemory = (Untouched old new said ⊎ Suspends (λ shelf vm. Unit {0})) × (files_new ≡ files_old)
  RunsSaving snap files_old files_new ending = Runs Comes room steps old new said ending × (files_new ≡ files_old)

-- how a run ended, whose state is saved to a file, if one is named, and what the folder's files became
abbrev pub RunsTo : (snap : Option (List ℕ)) → (Comes : Result Ready Ending → Type 0) → Room → (steps : ℕ) → (old new : Sight)
    → (said : List ℕ) → (files_old files_new : Option FileOf) → Ending → Type 0
RunsTo None Comes room steps old new said files_old files_new ending = Runs Comes room steps old new said ending × (files_new ≡ files_old)
RunsTo (Some snap) Comes room steps old new said files_old files_new ending = RunsSaving Comes room steps old new said snap files_old files_new ending

-- the place of the word that the line of a run names which saves to the word at a place, if it does: that word where it wasn't written
abbrev pub place_to : (save : Option ℕ) → Ending → ℕ
place_to (Some at) Unwritten = at
place_to save ending = 1

-- A run of the library that comes so of the folder's files and of this name ended so, and its state was saved to the other name where it took
-- all its steps: why, with what printed, what the ports tell and what in the folder, which count of faults rose, and what was said, in
-- the run and behind it.
pub record EndsSaving (Comes : Option FileOf → (name : List ℕ) → Result Ready Ending
    → Type 0) (room : Room) (steps : ℕ) (name snap : List ℕ) (old new : Outside) (ports_old ports_new : List PortView)
    (status : ℕ) : Type 0 where
  pub ending : Ending
  pub said : List ℕ
  pub status_is : status ≡ status_of ending
  pub went : RunsSaving (Comes old.files name) room steps (sight_in old ports_old) (sight_in new ports_new) said snap old.files new.files ending
  pub folder_counts : Counts old.folder_faults new.folder_faults (is_folder_fault ending)
  pub out_counts : Counts old.out_faults new.out_faults (is_out_fault ending)
  pub says : Says old.say new.say old.say_faults new.say_faults (said ++ line_of (name_in name snap ending) ending)

-- a run ended so, whose state is saved to a file, if one is named
abbrev pub EndsRunTo : (snap : Option (List ℕ)) → (Comes : Option FileOf → (name : List ℕ) → Result Ready Ending → Type 0) → Room
    → (steps : ℕ) → (name : List ℕ) → (old new : Outside) → (ports_old ports_new : List PortView) → (status : ℕ) → Type 0
EndsRunTo None Comes room steps name = EndsRun Comes room steps name
EndsRunTo (Some snap) Comes room steps name = EndsSaving Comes room steps name snap
