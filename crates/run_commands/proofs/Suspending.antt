-- What a run comes to whose state is saved, from its parts.
use Rattle.std.proofs.Common.{◌≡◌, inl, inr, ℕ, Bool, false, true, List, [], ◌++◌, Option, Some, None, Result, Ok, Err, refl, sym, ap, subst, ◌∙◌}
use Rattle.std.specs.Prelude.{◌≢◌, ◌||◌}
use Rattle.mpy_base.specs.declared.room.Room.{Room}
use Rattle.mpy_io.specs.Count.{Counts, Rose}
use Rattle.mpy_io.specs.declared.fault.Failed.{Failed}
use Rattle.mpy_io.specs.Files.{FileOf, Becomes, BecomesFront}
use Rattle.mpy_io.specs.Ports.{PortView}
use Rattle.bc_library.specs.Shelf.{Shelf}
use Rattle.library_runs.specs.vm_starting.declared.opening.Vm.{Vm}
use Rattle.library_runs.specs.declared.ending.RunEnd.{RunEnd}
use Rattle.library_runs.specs.declared.ending.RunEnd.TheVariants as ends
use Rattle.library_runs.specs.Runs.{Sight, RunsAs, StandsAt}
use Rattle.command_files.specs.mpy_endings.declared.ending.Ending.{Ending}
use Rattle.command_files.specs.mpy_endings.declared.ending.Ending.TheVariants.{Done, Unaccepted, Unread, Unverified, Unmerged, Unopened, Unfrozen, Unboarded, Different, Stopped, ReadFault, WriteFault, Unwritten, NoMemory, Absent}
use Rattle.command_files.specs.mpy_endings.declared.ending.Stop.TheVariants.{Past, LibraryFault, LibraryUnaccepted, Raised, Memory, Steps, Unsaved, Unresumed}
use Rattle.command_files.specs.mpy_endings.Ending.{is_folder_fault, is_out_fault, is_said, status_of}
use Rattle.command_files.specs.mpy_endings.Line.{Puts, Says, line_of, name_in}
use Rattle.command_files.specs.Folder.{ChangesOnly}
use Rattle.command_files.specs.Opened.{failed_in}
use Rattle.command_files.specs.Outside.{Outside}
use Rattle.command_files.proofs.Others.{became_only, front_only, same_only}
use Rattle.run_commands.specs.declared.ready.Ready.{Ready}
use Rattle.run_commands.specs.Run.{IsUnloaded, Runs, ending_of, sight_in}
use Rattle.run_commands.specs.Save.{EndsRunTo, HasNone, IsSaved, RunsSaving, RunsTo, Saved, SavedFront, SavesState, Suspends, is_unwritten}
use Rattle.run_commands.proofs.Running.{not_loaded, ran_library, runs_known, said_all, unsaid}

-- what became of the state
-- ========================

module _ (shelf : Shelf) (vm : Vm) (steps : ℕ) (snap : List ℕ) (old new : Option FileOf) (bytes given : List ℕ) (same : given ≡ bytes) (is : IsSaved bytes shelf vm) where
  pub written : Becomes old new snap given → SavesState snap old new shelf vm steps (Stopped (Steps steps))
  written h = ((bytes, is, subst (Becomes old new snap) same h), refl)

  pub cut : BecomesFront old new snap given → SavesState snap old new shelf vm steps Unwritten
  cut h = (bytes, is, subst (BecomesFront old new snap) same h)

module _ (shelf : Shelf) (vm : Vm) (steps : ℕ) (snap : List ℕ) (old new : Option FileOf) where
  abbrev Saves : Ending → Type 0
  Saves ending = SavesState snap old new shelf vm steps ending

  -- the count of the output's faults stays, nothing is said of it in the run, and only a file that isn't written is a fault of the folder
  pub saved_quiet : (ending : Ending) → Saves ending → is_out_fault ending ≡ false
  saved_quiet Done h = absurd h
  saved_quiet (Unaccepted fault) h = absurd h
  saved_quiet (Unread fault) h = absurd h
  saved_quiet (Unverified fault) h = absurd h
  saved_quiet (Unmerged fault) h = absurd h
  saved_quiet (Unopened fault) h = absurd h
  saved_quiet (Unfrozen fault) h = absurd h
  saved_quiet (Unboarded fault) h = absurd h
  saved_quiet (Different difference) h = absurd h
  saved_quiet (Stopped stop) h = refl
  saved_quiet ReadFault h = absurd h
  saved_quiet WriteFault h = absurd h
  saved_quiet Unwritten h = refl
  saved_quiet NoMemory h = refl
  saved_quiet Absent h = absurd h

  pub saved_reads : (ending : Ending) → Saves ending → is_unwritten ending ≡ is_folder_fault ending
  saved_reads Done h = absurd h
  saved_reads (Unaccepted fault) h = absurd h
  saved_reads (Unread fault) h = absurd h
  saved_reads (Unverified fault) h = absurd h
  saved_reads (Unmerged fault) h = absurd h
  saved_reads (Unopened fault) h = absurd h
  saved_reads (Unfrozen fault) h = absurd h
  saved_reads (Unboarded fault) h = absurd h
  saved_reads (Different difference) h = absurd h
  saved_reads (Stopped (Past limit)) h = absurd h
  saved_reads (Stopped (LibraryFault path)) h = absurd h
  saved_reads (Stopped (LibraryUnaccepted source)) h = absurd h
  saved_reads (Stopped Raised) h = absurd h
  saved_reads (Stopped Memory) h = absurd h
  saved_reads (Stopped (Steps count)) h = refl
  saved_reads (Stopped Unsaved) h = refl
  saved_reads (Stopped (Unresumed fault)) h = absurd h
  saved_reads ReadFault h = absurd h
  saved_reads WriteFault h = absurd h
  saved_reads Unwritten h = refl
  saved_reads NoMemory h = refl
  saved_reads Absent h = absurd h

-- the whole of a run
-- ==================

module _ (Comes : Result Ready Ending → Type 0) (room : Room) (steps : ℕ) (old new : Sight) (said snap : List ℕ) (files_old files_new : Option FileOf) where
  abbrev Went : Ending → Type 0
  Went ending = RunsSaving Comes room steps old new said snap files_old files_new ending

  -- it wasn't begun
  pub not_begun : (ending : Ending) → IsUnloaded ending → Comes (Err ending) → new ≡ old → said ≡ [] → files_new ≡ files_old → Went ending
  not_begun Done u h e s same = absurd u
  not_begun (Unaccepted fault) u h e s same = (not_loaded Comes room steps old new said (Unaccepted fault) u h e s, same)
  not_begun (Unread fault) u h e s same = (not_loaded Comes room steps old new said (Unread fault) u h e s, same)
  not_begun (Unverified fault) u h e s same = (not_loaded Comes room steps old new said (Unverified fault) u h e s, same)
  not_begun (Unmerged fault) u h e s same = absurd u
  not_begun (Unopened fault) u h e s same = (not_loaded Comes room steps old new said (Unopened fault) u h e s, same)
  not_begun (Unfrozen fault) u h e s same = absurd u
  not_begun (Unboarded fault) u h e s same = absurd u
  not_begun (Different difference) u h e s same = absurd u
  not_begun (Stopped (Past limit)) u h e s same = (not_loaded Comes room steps old new said (Stopped (Past limit)) u h e s, same)
  not_begun (Stopped (LibraryFault path)) u h e s same = (not_loaded Comes room steps old new said (Stopped (LibraryFault path)) u h e s, same)
  not_begun (Stopped (LibraryUnaccepted source)) u h e s same = (not_loaded Comes room steps old new said (Stopped (LibraryUnaccepted source)) u h e s, same)
  not_begun (Stopped Raised) u h e s same = absurd u
  not_begun (Stopped Memory) u h e s same = absurd u
  not_begun (Stopped (Steps count)) u h e s same = absurd u
  not_begun (Stopped Unsaved) u h e s same = absurd u
  not_begun (Stopped (Unresumed fault)) u h e s same = absurd u
  not_begun ReadFault u h e s same = (not_loaded Comes room steps old new said ReadFault u h e s, same)
  not_begun WriteFault u h e s same = absurd u
  not_begun Unwritten u h e s same = absurd u
  not_begun NoMemory u h e s same = (inl (not_loaded Comes room steps old new said NoMemory u h e s), same)
  not_begun Absent u h e s same = (not_loaded Comes room steps old new said Absent u h e s, same)

  module _ (ready : Ready) (comes : Comes (Ok ready)) where
    -- it ended before its steps did
    pub ended_so : (end : RunEnd) → end ≢ ends.Limit → (end ≡ ends.NoMemory → new ≡ old) → RunsAs ready.library ready.main room steps old new end said → files_new ≡ files_old → Went (ending_of end steps)
    ended_so ends.Ended other none r same = (ran_library Comes room steps old new said ready ends.Ended comes none r, same)
    ended_so ends.Raised other none r same = (ran_library Comes room steps old new said ready ends.Raised comes none r, same)
    ended_so ends.Memory other none r same = (ran_library Comes room steps old new said ready ends.Memory comes none r, same)
    ended_so ends.Limit other none r same = absurd (other refl)
    ended_so ends.WriteFault other none r same = (ran_library Comes room steps old new said ready ends.WriteFault comes none r, same)
    ended_so ends.NoMemory other none r same = (inl (ran_library Comes room steps old new said ready ends.NoMemory comes none r), same)

    module _ (runs : RunsAs ready.library ready.main room steps old new ends.Limit said) (vm : Vm) (stands : StandsAt ready.library ready.main room steps old new vm) where
      suspends : (Saves : Shelf → Vm → Type 0) → Saves ready.library vm → Suspends Comes room steps old new said Saves
      suspends Saves h = record { ready = ready; comes = comes; runs = runs; vm = vm; stands = stands; saves = h }

      -- it took all its steps, and its state was saved or not
      pub was_saved : (ending : Ending) → SavesState snap files_old files_new ready.library vm steps ending → Went ending
      was_saved Done h = absurd h
      was_saved (Unaccepted fault) h = absurd h
      was_saved (Unread fault) h = absurd h
      was_saved (Unverified fault) h = absurd h
      was_saved (Unmerged fault) h = absurd h
      was_saved (Unopened fault) h = absurd h
      was_saved (Unfrozen fault) h = absurd h
      was_saved (Unboarded fault) h = absurd h
      was_saved (Different difference) h = absurd h
      was_saved (Stopped (Past limit)) h = absurd h
      was_saved (Stopped (LibraryFault path)) h = absurd h
      was_saved (Stopped (LibraryUnaccepted source)) h = absurd h
      was_saved (Stopped Raised) h = absurd h
      was_saved (Stopped Memory) h = absurd h
      was_saved (Stopped (Steps count)) h = (suspends (Saved snap files_old files_new) h.0, h.1)
      was_saved (Stopped Unsaved) h = (suspends HasNone h.0, h.1)
      was_saved (Stopped (Unresumed fault)) h = absurd h
      was_saved ReadFault h = absurd h
      was_saved WriteFault h = absurd h
      was_saved Unwritten h = suspends (SavedFront snap files_old files_new) h
      was_saved NoMemory h = (inr (suspends (λ shelf v. Unit {0}) tt), h)
      was_saved Absent h = absurd h

-- what ends otherwise than by writing the state
pub not_unwritten : (end : RunEnd) (steps : ℕ) → is_unwritten (ending_of end steps) ≡ false
not_unwritten ends.Ended steps = refl
not_unwritten ends.Raised steps = refl
not_unwritten ends.Memory steps = refl
not_unwritten ends.Limit steps = refl
not_unwritten ends.WriteFault steps = refl
not_unwritten ends.NoMemory steps = refl

pub not_unsaved : (end : RunEnd) (steps : ℕ) (ending : Ending) → ending ≡ ending_of end steps → ending ≡ Stopped Unsaved → ⊥
not_unsaved ends.Ended steps ending is e = absurd cc
not_unsaved ends.Raised steps ending is e = absurd cc
not_unsaved ends.Memory steps ending is e = absurd cc
not_unsaved ends.Limit steps ending is e = absurd cc
not_unsaved ends.WriteFault steps ending is e = absurd cc
not_unsaved ends.NoMemory steps ending is e = absurd cc

pub unloaded_unwritten : (ending : Ending) → IsUnloaded ending → is_unwritten ending ≡ false
unloaded_unwritten Done h = refl
unloaded_unwritten (Unaccepted fault) h = refl
unloaded_unwritten (Unread fault) h = refl
unloaded_unwritten (Unverified fault) h = refl
unloaded_unwritten (Unmerged fault) h = refl
unloaded_unwritten (Unopened fault) h = refl
unloaded_unwritten (Unfrozen fault) h = refl
unloaded_unwritten (Unboarded fault) h = refl
unloaded_unwritten (Different difference) h = refl
unloaded_unwritten (Stopped stop) h = refl
unloaded_unwritten ReadFault h = refl
unloaded_unwritten WriteFault h = refl
unloaded_unwritten Unwritten h = absurd h
unloaded_unwritten NoMemory h = refl
unloaded_unwritten Absent h = refl

-- what is known of a run
-- ======================

module _ (room : Room) (steps : ℕ) (old new : Sight) (said snap : List ℕ) (files_old files_new : Option FileOf) where
  -- what is said of the run is said in it
  pub unsaid_to : (Comes : Result Ready Ending → Type 0) (ending : Ending) → RunsSaving Comes room steps old new said snap files_old files_new ending → is_said ending ≡ false → said ≡ []
  unsaid_to Comes Done r e = unsaid Comes room steps old new said Done r.0 e
  unsaid_to Comes (Unaccepted fault) r e = unsaid Comes room steps old new said (Unaccepted fault) r.0 e
  unsaid_to Comes (Unread fault) r e = unsaid Comes room steps old new said (Unread fault) r.0 e
  unsaid_to Comes (Unverified fault) r e = unsaid Comes room steps old new said (Unverified fault) r.0 e
  unsaid_to Comes (Unmerged fault) r e = absurd r.0
  unsaid_to Comes (Unopened fault) r e = unsaid Comes room steps old new said (Unopened fault) r.0 e
  unsaid_to Comes (Unfrozen fault) r e = absurd r.0
  unsaid_to Comes (Unboarded fault) r e = absurd r.0
  unsaid_to Comes (Different difference) r e = absurd r.0
  unsaid_to Comes (Stopped (Past limit)) r e = unsaid Comes room steps old new said (Stopped (Past limit)) r.0 e
  unsaid_to Comes (Stopped (LibraryFault path)) r e = unsaid Comes room steps old new said (Stopped (LibraryFault path)) r.0 e
  unsaid_to Comes (Stopped (LibraryUnaccepted source)) r e = unsaid Comes room steps old new said (Stopped (LibraryUnaccepted source)) r.0 e
  unsaid_to Comes (Stopped Raised) r e = absurd cc
  unsaid_to Comes (Stopped Memory) r e = absurd cc
  unsaid_to Comes (Stopped (Steps count)) r e = r.0.runs.is_said
  unsaid_to Comes (Stopped Unsaved) r e = r.0.runs.is_said
  unsaid_to Comes (Stopped (Unresumed fault)) r e = absurd r.0
  unsaid_to Comes ReadFault r e = unsaid Comes room steps old new said ReadFault r.0 e
  unsaid_to Comes WriteFault r e = unsaid Comes room steps old new said WriteFault r.0 e
  unsaid_to Comes Unwritten r e = r.runs.is_said
  unsaid_to Comes NoMemory r e = elim r.0 [
    | inl h ↦ h.says
    | inr h ↦ h.runs.is_said
  ]
  unsaid_to Comes Absent r e = unsaid Comes room steps old new said Absent r.0 e

  module _ (Comes Known : Result Ready Ending → Type 0) (known : (r : Result Ready Ending) → Comes r → Known r) where
    suspends_known : (Saves : Shelf → Vm → Type 0) → Suspends Comes room steps old new said Saves → Suspends Known room steps old new said Saves
    suspends_known Saves h = record { ready = h.ready; comes = known (Ok h.ready) h.comes; runs = h.runs; vm = h.vm; stands = h.stands; saves = h.saves }

    -- what is known of each result that loading comes to is known of the run
    pub saving_known : (ending : Ending) → RunsSaving Comes room steps old new said snap files_old files_new ending → RunsSaving Known room steps old new said snap files_old files_new ending
    saving_known Done r = (runs_known Comes room steps old new said Known known Done r.0, r.1)
    saving_known (Unaccepted fault) r = (runs_known Comes room steps old new said Known known (Unaccepted fault) r.0, r.1)
    saving_known (Unread fault) r = (runs_known Comes room steps old new said Known known (Unread fault) r.0, r.1)
    saving_known (Unverified fault) r = (runs_known Comes room steps old new said Known known (Unverified fault) r.0, r.1)
    saving_known (Unmerged fault) r = absurd r.0
    saving_known (Unopened fault) r = (runs_known Comes room steps old new said Known known (Unopened fault) r.0, r.1)
    saving_known (Unfrozen fault) r = absurd r.0
    saving_known (Unboarded fault) r = absurd r.0
    saving_known (Different difference) r = absurd r.0
    saving_known (Stopped (Past limit)) r = (runs_known Comes room steps old new said Known known (Stopped (Past limit)) r.0, r.1)
    saving_known (Stopped (LibraryFault path)) r = (runs_known Comes room steps old new said Known known (Stopped (LibraryFault path)) r.0, r.1)
    saving_known (Stopped (LibraryUnaccepted source)) r = (runs_known Comes room steps old new said Known known (Stopped (LibraryUnaccepted source)) r.0, r.1)
    saving_known (Stopped Raised) r = (runs_known Comes room steps old new said Known known (Stopped Raised) r.0, r.1)
    saving_known (Stopped Memory) r = (runs_known Comes room steps old new said Known known (Stopped Memory) r.0, r.1)
    saving_known (Stopped (Steps count)) r = (suspends_known (Saved snap files_old files_new) r.0, r.1)
    saving_known (Stopped Unsaved) r = (suspends_known HasNone r.0, r.1)
    saving_known (Stopped (Unresumed fault)) r = absurd r.0
    saving_known ReadFault r = (runs_known Comes room steps old new said Known known ReadFault r.0, r.1)
    saving_known WriteFault r = (runs_known Comes room steps old new said Known known WriteFault r.0, r.1)
    saving_known Unwritten r = suspends_known (SavedFront snap files_old files_new) r
    saving_known NoMemory r = (
      elim r.0 [
        | inl h ↦ inl h
        | inr h ↦ inr (suspends_known (λ shelf v. Unit {0}) h)
      ],
      r.1,
    )
    saving_known Absent r = (runs_known Comes room steps old new said Known known Absent r.0, r.1)

  -- no other file changed
  pub saving_only : (Comes : Result Ready Ending → Type 0) (ending : Ending) → RunsSaving Comes room steps old new said snap files_old files_new ending → ChangesOnly files_old files_new snap
  saving_only Comes Done r = same_only files_old files_new snap r.1
  saving_only Comes (Unaccepted fault) r = same_only files_old files_new snap r.1
  saving_only Comes (Unread fault) r = same_only files_old files_new snap r.1
  saving_only Comes (Unverified fault) r = same_only files_old files_new snap r.1
  saving_only Comes (Unmerged fault) r = absurd r.0
  saving_only Comes (Unopened fault) r = same_only files_old files_new snap r.1
  saving_only Comes (Unfrozen fault) r = absurd r.0
  saving_only Comes (Unboarded fault) r = absurd r.0
  saving_only Comes (Different difference) r = absurd r.0
  saving_only Comes (Stopped (Past limit)) r = same_only files_old files_new snap r.1
  saving_only Comes (Stopped (LibraryFault path)) r = same_only files_old files_new snap r.1
  saving_only Comes (Stopped (LibraryUnaccepted source)) r = same_only files_old files_new snap r.1
  saving_only Comes (Stopped Raised) r = same_only files_old files_new snap r.1
  saving_only Comes (Stopped Memory) r = same_only files_old files_new snap r.1
  saving_only Comes (Stopped (Steps count)) r = became_only files_old files_new snap r.0.saves.0 r.0.saves.2
  saving_only Comes (Stopped Unsaved) r = same_only files_old files_new snap r.1
  saving_only Comes (Stopped (Unresumed fault)) r = absurd r.0
  saving_only Comes ReadFault r = same_only files_old files_new snap r.1
  saving_only Comes WriteFault r = same_only files_old files_new snap r.1
  saving_only Comes Unwritten r = front_only files_old files_new snap r.saves.0 r.saves.2
  saving_only Comes NoMemory r = same_only files_old files_new snap r.1
  saving_only Comes Absent r = same_only files_old files_new snap r.1

-- a run that saves nothing isn't unwritten
pub runs_written : (Comes : Result Ready Ending → Type 0) (room : Room) (steps : ℕ) (old new : Sight) (said : List ℕ) (ending : Ending) → Runs Comes room steps old new said ending → is_unwritten ending ≡ false
runs_written Comes room steps old new said Done r = refl
runs_written Comes room steps old new said (Unaccepted fault) r = refl
runs_written Comes room steps old new said (Unread fault) r = refl
runs_written Comes room steps old new said (Unverified fault) r = refl
runs_written Comes room steps old new said (Unmerged fault) r = refl
runs_written Comes room steps old new said (Unopened fault) r = refl
runs_written Comes room steps old new said (Unfrozen fault) r = refl
runs_written Comes room steps old new said (Unboarded fault) r = refl
runs_written Comes room steps old new said (Different difference) r = refl
runs_written Comes room steps old new said (Stopped stop) r = refl
runs_written Comes room steps old new said ReadFault r = refl
runs_written Comes room steps old new said WriteFault r = refl
runs_written Comes room steps old new said Unwritten r = absurd r
runs_written Comes room steps old new said NoMemory r = refl
runs_written Comes room steps old new said Absent r = refl

pub or_false : (a b c : Bool) → a ≡ c → b ≡ false → (a || b) ≡ c
or_false true b c e f = e
or_false false b c e f = f ∙ e

-- counts of faults of the folder
-- ==============================

with_none : (a b c : ℕ) (failed : Bool) → Counts a b failed → c ≡ b → Counts a c (failed || false)
with_none a b c true h e = subst (λ (n : ℕ). Rose a n) (sym e) h
with_none a b c false h e = e ∙ h

after_none : (a b c : ℕ) (failed : Bool) → failed ≡ false → Counts a b failed → Rose b c → Counts a c (failed || true)
after_none a b c true none h r = absurd cc
after_none a b c false none h r = subst (λ (n : ℕ). Rose n c) h r

module _ (loaded : Result Ready Ending) (a b c : ℕ) (counted : Counts a b (failed_in loaded)) where
  abbrev Both : Ending → Type 0
  Both ending = Counts a c (failed_in loaded || is_unwritten ending)

  counts_run : (room : Room) (steps : ℕ) (old new : Sight) (said : List ℕ) (ending : Ending) → Runs (λ (r : Result Ready Ending). r ≡ loaded) room steps old new said ending → Counts b c (is_unwritten ending) → Both ending
  counts_run room steps old new said Done r h = with_none a b c (failed_in loaded) counted h
  counts_run room steps old new said (Unaccepted fault) r h = with_none a b c (failed_in loaded) counted h
  counts_run room steps old new said (Unread fault) r h = with_none a b c (failed_in loaded) counted h
  counts_run room steps old new said (Unverified fault) r h = with_none a b c (failed_in loaded) counted h
  counts_run room steps old new said (Unmerged fault) r h = with_none a b c (failed_in loaded) counted h
  counts_run room steps old new said (Unopened fault) r h = with_none a b c (failed_in loaded) counted h
  counts_run room steps old new said (Unfrozen fault) r h = with_none a b c (failed_in loaded) counted h
  counts_run room steps old new said (Unboarded fault) r h = with_none a b c (failed_in loaded) counted h
  counts_run room steps old new said (Different difference) r h = with_none a b c (failed_in loaded) counted h
  counts_run room steps old new said (Stopped (Past limit)) r h = with_none a b c (failed_in loaded) counted h
  counts_run room steps old new said (Stopped (LibraryFault path)) r h = with_none a b c (failed_in loaded) counted h
  counts_run room steps old new said (Stopped (LibraryUnaccepted source)) r h = with_none a b c (failed_in loaded) counted h
  counts_run room steps old new said (Stopped Raised) r h = with_none a b c (failed_in loaded) counted h
  counts_run room steps old new said (Stopped Memory) r h = with_none a b c (failed_in loaded) counted h
  counts_run room steps old new said (Stopped (Steps count)) r h = with_none a b c (failed_in loaded) counted h
  counts_run room steps old new said (Stopped Unsaved) r h = with_none a b c (failed_in loaded) counted h
  counts_run room steps old new said (Stopped (Unresumed fault)) r h = with_none a b c (failed_in loaded) counted h
  counts_run room steps old new said ReadFault r h = with_none a b c (failed_in loaded) counted h
  counts_run room steps old new said WriteFault r h = with_none a b c (failed_in loaded) counted h
  counts_run room steps old new said Unwritten r h = absurd r
  counts_run room steps old new said NoMemory r h = with_none a b c (failed_in loaded) counted h
  counts_run room steps old new said Absent r h = with_none a b c (failed_in loaded) counted h

  counts_saving : (room : Room) (steps : ℕ) (old new : Sight) (said snap : List ℕ) (files_old files_new : Option FileOf) (ending : Ending)
      → RunsSaving (λ (r : Result Ready Ending). r ≡ loaded) room steps old new said snap files_old files_new ending → Counts b c (is_unwritten ending) → Both ending
  counts_saving room steps old new said snap files_old files_new Done r h = with_none a b c (failed_in loaded) counted h
  counts_saving room steps old new said snap files_old files_new (Unaccepted fault) r h = with_none a b c (failed_in loaded) counted h
  counts_saving room steps old new said snap files_old files_new (Unread fault) r h = with_none a b c (failed_in loaded) counted h
  counts_saving room steps old new said snap files_old files_new (Unverified fault) r h = with_none a b c (failed_in loaded) counted h
  counts_saving room steps old new said snap files_old files_new (Unmerged fault) r h = with_none a b c (failed_in loaded) counted h
  counts_saving room steps old new said snap files_old files_new (Unopened fault) r h = with_none a b c (failed_in loaded) counted h
  counts_saving room steps old new said snap files_old files_new (Unfrozen fault) r h = with_none a b c (failed_in loaded) counted h
  counts_saving room steps old new said snap files_old files_new (Unboarded fault) r h = with_none a b c (failed_in loaded) counted h
  counts_saving room steps old new said snap files_old files_new (Different difference) r h = with_none a b c (failed_in loaded) counted h
  counts_saving room steps old new said snap files_old files_new (Stopped (Past limit)) r h = with_none a b c (failed_in loaded) counted h
  counts_saving room steps old new said snap files_old files_new (Stopped (LibraryFault path)) r h = with_none a b c (failed_in loaded) counted h
  counts_saving room steps old new said snap files_old files_new (Stopped (LibraryUnaccepted source)) r h = with_none a b c (failed_in loaded) counted h
  counts_saving room steps old new said snap files_old files_new (Stopped Raised) r h = with_none a b c (failed_in loaded) counted h
  counts_saving room steps old new said snap files_old files_new (Stopped Memory) r h = with_none a b c (failed_in loaded) counted h
  counts_saving room steps old new said snap files_old files_new (Stopped (Steps count)) r h = with_none a b c (failed_in loaded) counted h
  counts_saving room steps old new said snap files_old files_new (Stopped Unsaved) r h = with_none a b c (failed_in loaded) counted h
  counts_saving room steps old new said snap files_old files_new (Stopped (Unresumed fault)) r h = with_none a b c (failed_in loaded) counted h
  counts_saving room steps old new said snap files_old files_new ReadFault r h = with_none a b c (failed_in loaded) counted h
  counts_saving room steps old new said snap files_old files_new WriteFault r h = with_none a b c (failed_in loaded) counted h
  counts_saving room steps old new said snap files_old files_new Unwritten r h = after_none a b c (failed_in loaded) (ap (λ (x : Result Ready Ending). failed_in x) (sym r.comes)) counted h
  counts_saving room steps old new said snap files_old files_new NoMemory r h = with_none a b c (failed_in loaded) counted h
  counts_saving room steps old new said snap files_old files_new Absent r h = with_none a b c (failed_in loaded) counted h

  pub counts_to : (snap : Option (List ℕ)) (room : Room) (steps : ℕ) (old new : Sight) (said : List ℕ) (files_old files_new : Option FileOf) (ending : Ending)
      → RunsTo snap (λ (r : Result Ready Ending). r ≡ loaded) room steps old new said files_old files_new ending → Counts b c (is_unwritten ending) → Both ending
  counts_to None room steps old new said files_old files_new ending ran h = counts_run room steps old new said ending ran.0 h
  counts_to (Some snap) room steps old new said files_old files_new ending ran h = counts_saving room steps old new said snap files_old files_new ending ran h

-- the whole of a run
-- ==================

-- the word that the line of the run names
abbrev pub word_to : (snap : Option (List ℕ)) → (name : List ℕ) → Ending → List ℕ
word_to None name ending = name
word_to (Some snap) name ending = name_in name snap ending

unsaid_any : (snap : Option (List ℕ)) (Comes : Result Ready Ending → Type 0) (room : Room) (steps : ℕ) (old new : Sight) (said : List ℕ) (files_old files_new : Option FileOf) (ending : Ending)
    → RunsTo snap Comes room steps old new said files_old files_new ending → is_said ending ≡ false → said ≡ []
unsaid_any None Comes room steps old new said files_old files_new ending ran e = unsaid Comes room steps old new said ending ran.0 e
unsaid_any (Some snap) Comes room steps old new said files_old files_new ending ran e = unsaid_to room steps old new said snap files_old files_new Comes ending ran e

-- what was said in it, and the line behind it
pub says_to : (snap : Option (List ℕ)) (Comes : Result Ready Ending → Type 0) (room : Room) (steps : ℕ) (a b : Sight) (files_old files_new : Option FileOf) (old new between : Option (List ℕ)) (k m count : ℕ) (said name : List ℕ) (ending : Ending) (r : Result (Unit {0}) Failed)
    → RunsTo snap Comes room steps a b said files_old files_new ending → (is_said ending ≡ false → (between ≡ old) × (count ≡ k)) → (is_said ending ≡ true → (new ≡ between) × (m ≡ count))
    → Says old between k count said → Puts between new count m (line_of name ending) r → Says old new k m (said ++ line_of name ending)
says_to snap Comes room steps a b files_old files_new old new between k m count said name ending r ran silent same s p =
    said_all old between new k count m name said ending r
    (λ e. ((silent e).0, (silent e).1, unsaid_any snap Comes room steps a b said files_old files_new ending ran e)) same s p

-- of what was loaded, whatever is known of that
pub ends_run_to : (snap : Option (List ℕ)) (room : Room) (steps : ℕ) (old new : Outside) (ports_old ports_new : List PortView) (loaded : Result Ready Ending) (ending : Ending) (said : List ℕ)
    → RunsTo snap (λ (r : Result Ready Ending). r ≡ loaded) room steps (sight_in old ports_old) (sight_in new ports_new) said old.files new.files ending
    → (Comes : Option FileOf → (name : List ℕ) → Result Ready Ending → Type 0) (name word : List ℕ) (status : ℕ) → status ≡ status_of ending → word ≡ word_to snap name ending → Comes old.files name loaded
    → Counts old.folder_faults new.folder_faults (is_folder_fault ending) → Counts old.out_faults new.out_faults (is_out_fault ending)
    → Says old.say new.say old.say_faults new.say_faults (said ++ line_of word ending) → EndsRunTo snap Comes room steps name old new ports_old ports_new status
ends_run_to None room steps old new ports_old ports_new loaded ending said ran Comes name word status status_is e comes reads out says = record {
  ending = ending;
  said = said;
  status_is = status_is;
  went = runs_known (λ (r : Result Ready Ending). r ≡ loaded) room steps (sight_in old ports_old) (sight_in new ports_new) said (Comes old.files name) (λ r same. subst (Comes old.files name) (sym same) comes) ending ran.0;
  folder_counts = reads;
  out_counts = out;
  says = subst (λ (w : List ℕ). Says old.say new.say old.say_faults new.say_faults (said ++ line_of w ending)) e says;
}
ends_run_to (Some snap) room steps old new ports_old ports_new loaded ending said ran Comes name word status status_is e comes reads out says = record {
  ending = ending;
  said = said;
  status_is = status_is;
  went = saving_known room steps (sight_in old ports_old) (sight_in new ports_new) said snap old.files new.files (λ (r : Result Ready Ending). r ≡ loaded) (Comes old.files name) (λ r same. subst (Comes old.files name) (sym same) comes) ending ran;
  folder_counts = reads;
  out_counts = out;
  says = subst (λ (w : List ℕ). Says old.say new.say old.say_faults new.say_faults (said ++ line_of w ending)) e says;
}
