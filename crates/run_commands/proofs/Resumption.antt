-- What a command comes to that goes on from a snapshot, from its parts.
use Rattle.std.proofs.Common.{◌≡◌, ◌⊎◌, inl, inr, ◌+◌, ◌≤◌, ◌<◌, ◌^◌, ℕ, Bool, true, false, List, [], length, Option, Some, None, Result, Ok, Err, refl, sym, ap, subst, ◌∙◌, arith}
use Rattle.std.specs.Prelude.{◌≢◌, ◌↔◌, IfErr, IsErrOf}
use Rattle.std.specs.Io.KnownBytes.{Keeps}
use Rattle.std.proofs.KnownBytes.{Keeps-refl}
use Rattle.mpy_base.specs.declared.limits.TheConstants.{MAX_READ_BYTES}
use Rattle.mpy_base.specs.declared.refused.Refused.{Refused}
use Rattle.mpy_base.specs.declared.refused.Refused.TheVariants as refused
use Rattle.mpy_io.specs.Files.{FileOf}
use Rattle.bc_library.specs.Shelf.{Shelf}
use Rattle.snap_loading.specs.Loaded.{IsLoaded}
use Rattle.snap_grammar.specs.declared.fault.SnapFault.{SnapFault}
use Rattle.snap_grammar.specs.declared.fault.SnapFault.TheVariants.{BadHeader, BadForm, BadState}
use Rattle.snap_grammar.specs.declared.parts.Snapshot.{Snapshot}
use Rattle.snap_grammar.specs.Reading.{BeginsSo}
use Rattle.snap_grammar.specs.Spelling.{Fits, spelling}
use Rattle.snap_states.specs.States.{IsStateOf}
use Rattle.library_runs.specs.vm_starting.declared.opening.Vm.{Vm}
use Rattle.library_runs.specs.declared.ending.RunEnd.{RunEnd}
use Rattle.library_runs.specs.declared.ending.RunEnd.TheVariants as ends
use Rattle.library_runs.specs.Runs.{Sight, IsSaid}
use Rattle.command_files.specs.image_runs.declared.fault.MainFault.TheVariants as mains
use Rattle.command_files.specs.mpy_words.Words.{saved_name}
use Rattle.command_files.specs.mpy_endings.declared.ending.Ending.{Ending}
use Rattle.command_files.specs.mpy_endings.declared.ending.Ending.TheVariants.{Done, Unaccepted, Unread, Unverified, Unmerged, Unopened, Unfrozen, Unboarded, Different, Stopped, ReadFault, WriteFault, Unwritten, NoMemory, Absent}
use Rattle.command_files.specs.mpy_endings.declared.ending.Stop.TheVariants.{Past, LibraryFault, LibraryUnaccepted, Raised, Memory, Steps, Unsaved, Unresumed}
use Rattle.command_files.specs.mpy_endings.Ending.{IsRunStatus, is_folder_fault, is_out_fault, is_said, status_of}
use Rattle.command_files.specs.Folder.{ChangesOnly, MayHold}
use Rattle.command_files.specs.Opened.{failed_in}
use Rattle.command_files.proofs.Others.{became_only, front_only, same_only}
use Rattle.command_files.proofs.mpy_endings_lemmas.Statuses.{none_run}
use Rattle.run_commands.specs.Ready.{begins_image}
use Rattle.run_commands.specs.Run.{FileLibrary, IsUnloaded, Untouched, ending_of}
use Rattle.run_commands.specs.Save.{SavesState, place_to}
use Rattle.run_commands.specs.Resume.{FirstSnapFault, HoldsState, ImageLibrary, RefusesState, ResumeLibrary, Resumes, WentOn, not_read, of_file, of_image}
use Rattle.run_commands.proofs.Running.{refused_unloaded}
use Rattle.run_commands.proofs.Starting.{unread_unloaded}

-- the library
-- ===========

module _ (below : Shelf) (bytes : List ℕ) where
  image_refused : (ending : Ending) → ImageLibrary below bytes (Err ending) → IsUnloaded ending × (is_folder_fault ending ≡ false)
  image_refused Done h = absurd h
  image_refused (Unaccepted fault) h = absurd h
  image_refused (Unread fault) h = absurd h
  image_refused (Unverified fault) h = absurd h
  image_refused (Unmerged fault) h = absurd h
  image_refused (Unopened (mains.Image fault)) h = (tt, refl)
  image_refused (Unopened (mains.NoMain name)) h = absurd h
  image_refused (Unfrozen fault) h = absurd h
  image_refused (Unboarded fault) h = absurd h
  image_refused (Different difference) h = absurd h
  image_refused (Stopped stop) h = absurd h
  image_refused ReadFault h = absurd h
  image_refused WriteFault h = absurd h
  image_refused Unwritten h = absurd h
  image_refused NoMemory h = (tt, refl)
  image_refused Absent h = absurd h

  pub image_unloaded : (result : Result Shelf Ending) → ImageLibrary below bytes result → IfErr result IsUnloaded
  image_unloaded (Ok library) h = tt
  image_unloaded (Err ending) h = (image_refused ending h).0

  pub image_counted : (result : Result Shelf Ending) → ImageLibrary below bytes result → failed_in result ≡ false
  image_counted (Ok library) h = refl
  image_counted (Err ending) h = (image_refused ending h).1

module _ (below : Shelf) (files : Option FileOf) (name bytes read : List ℕ) (begins : Bool) (result : Result Shelf Ending) where
  pub image_comes : read ≡ bytes → MayHold files name (Some bytes) → length bytes ≤ MAX_READ_BYTES → begins ≡ begins_image read → begins ≡ true → ImageLibrary below read result → ResumeLibrary below files name result
  image_comes e holds short is true_is h =
      of_image bytes holds short (sym (is ∙ ap begins_image e) ∙ true_is) (subst (λ (b : List ℕ). ImageLibrary below b result) e h)

  pub file_comes : read ≡ bytes → MayHold files name (Some bytes) → begins ≡ begins_image read → begins ≡ false → FileLibrary files name result → ResumeLibrary below files name result
  file_comes e holds is false_is h = of_file bytes holds (sym (is ∙ ap begins_image e) ∙ false_is) h

pub library_unloaded : (below : Shelf) (files : Option FileOf) (name : List ℕ) (ending : Ending) → ResumeLibrary below files name (Err ending) → IsUnloaded ending
library_unloaded below files name ending (not_read said h e) = let same : ending ≡ said = cc in subst IsUnloaded (sym same) (unread_unloaded files name said h)
library_unloaded below files name ending (of_file bytes holds begins h) = refused_unloaded files name ending h
library_unloaded below files name ending (of_image bytes holds short begins h) = (image_refused below bytes ending h).0

-- and no write failed
pub unloaded_uncut : (ending : Ending) → IsUnloaded ending → status_of ending ≡ 8 → ⊥
unloaded_uncut Done h e = absurd h
unloaded_uncut (Unaccepted fault) h e = absurd cc
unloaded_uncut (Unread fault) h e = absurd cc
unloaded_uncut (Unverified fault) h e = absurd cc
unloaded_uncut (Unmerged fault) h e = absurd h
unloaded_uncut (Unopened (mains.Image fault)) h e = absurd cc
unloaded_uncut (Unopened (mains.NoMain name)) h e = absurd cc
unloaded_uncut (Unfrozen fault) h e = absurd h
unloaded_uncut (Unboarded fault) h e = absurd h
unloaded_uncut (Different difference) h e = absurd h
unloaded_uncut (Stopped (Past limit)) h e = absurd cc
unloaded_uncut (Stopped (LibraryFault path)) h e = absurd cc
unloaded_uncut (Stopped (LibraryUnaccepted source)) h e = absurd cc
unloaded_uncut (Stopped Raised) h e = absurd h
unloaded_uncut (Stopped Memory) h e = absurd h
unloaded_uncut (Stopped (Steps count)) h e = absurd h
unloaded_uncut (Stopped Unsaved) h e = absurd h
unloaded_uncut (Stopped (Unresumed fault)) h e = absurd h
unloaded_uncut ReadFault h e = absurd cc
unloaded_uncut WriteFault h e = absurd h
unloaded_uncut Unwritten h e = absurd h
unloaded_uncut NoMemory h e = absurd cc
unloaded_uncut Absent h e = absurd cc

-- the snapshot
-- ============

module _ (shelf : Shelf) (bytes : List ℕ) (r : Result Vm (Refused SnapFault)) (header : IsErrOf r (refused.Fault BadHeader) ↔ (BeginsSo bytes → ⊥))
    (form : IsErrOf r (refused.Fault BadForm) → (s : Snapshot) → Fits s → bytes ≡ spelling s → ⊥)
    (state : IsErrOf r (refused.Fault BadState) → (s : Snapshot) × Fits s × (bytes ≡ spelling s) × (IsStateOf shelf s → ⊥)) where
  pub first_fault : (fault : SnapFault) → r ≡ Err (refused.Fault fault) → FirstSnapFault shelf bytes fault
  first_fault BadHeader e = header.0 e
  first_fault BadForm e = ((λ lacks. absurd (let clash = sym e ∙ header.1 lacks in cc)), form e)
  first_fault BadState e = state e

module _ (shelf : Shelf) (files : Option FileOf) (name : List ℕ) where
  abbrev Refuses : Ending → Type 0
  Refuses ending = RefusesState shelf files name ending

  -- a snapshot that is refused prints nothing
  pub refused_quiet : (ending : Ending) → Refuses ending → is_out_fault ending ≡ false
  refused_quiet Done h = refl
  refused_quiet (Unaccepted fault) h = refl
  refused_quiet (Unread fault) h = refl
  refused_quiet (Unverified fault) h = refl
  refused_quiet (Unmerged fault) h = refl
  refused_quiet (Unopened fault) h = refl
  refused_quiet (Unfrozen fault) h = refl
  refused_quiet (Unboarded fault) h = refl
  refused_quiet (Different difference) h = refl
  refused_quiet (Stopped stop) h = refl
  refused_quiet ReadFault h = refl
  refused_quiet WriteFault h = absurd h
  refused_quiet Unwritten h = refl
  refused_quiet NoMemory h = refl
  refused_quiet Absent h = refl

  pub refused_unrun : (ending : Ending) → Refuses ending → IsRunStatus (status_of ending) → ⊥
  refused_unrun ending h s = none_run Refuses (λ p. p) (λ p. p) (λ p. p) (λ count p. p) ending h s

  -- nor does it lack a write
  pub refused_uncut : (ending : Ending) → Refuses ending → status_of ending ≡ 8 → ⊥
  refused_uncut Done h e = absurd h
  refused_uncut (Unaccepted fault) h e = absurd h
  refused_uncut (Unread fault) h e = absurd h
  refused_uncut (Unverified fault) h e = absurd h
  refused_uncut (Unmerged fault) h e = absurd h
  refused_uncut (Unopened fault) h e = absurd h
  refused_uncut (Unfrozen fault) h e = absurd h
  refused_uncut (Unboarded fault) h e = absurd h
  refused_uncut (Different difference) h e = absurd h
  refused_uncut (Stopped (Past limit)) h e = absurd h
  refused_uncut (Stopped (LibraryFault path)) h e = absurd h
  refused_uncut (Stopped (LibraryUnaccepted source)) h e = absurd h
  refused_uncut (Stopped Raised) h e = absurd h
  refused_uncut (Stopped Memory) h e = absurd h
  refused_uncut (Stopped (Steps count)) h e = absurd h
  refused_uncut (Stopped Unsaved) h e = absurd h
  refused_uncut (Stopped (Unresumed fault)) h e = absurd cc
  refused_uncut ReadFault h e = absurd cc
  refused_uncut WriteFault h e = absurd h
  refused_uncut Unwritten h e = absurd h
  refused_uncut NoMemory h e = absurd cc
  refused_uncut Absent h e = absurd cc

  pub refused_unsaved : (ending : Ending) → Refuses ending → ending ≡ Stopped Unsaved → ⊥
  refused_unsaved ending h e = subst Refuses e h

-- no more steps are paid on a machine that was loaded than may be counted
pub countable : (shelf : Shelf) (bytes : List ℕ) (vm : Vm) (steps : ℕ) → IsLoaded shelf bytes vm → steps < 2 ^ 63 → vm.paid + steps < 2 ^ 64
countable shelf bytes vm steps h few =
    let same : vm.paid ≡ h.s.paid = ap (λ (s : Snapshot). s.paid) h.shown in
    let less : h.s.paid < 2 ^ 63 = h.is_state.few_paid in
    omega (arith, same, less, few)

-- the run on
-- ==========

-- what is said of a run is said in it
end_unsaid : (end : RunEnd) (steps : ℕ) (said : List ℕ) → IsSaid end said → is_said (ending_of end steps) ≡ false → said ≡ []
end_unsaid ends.Ended steps said is e = is
end_unsaid ends.Raised steps said is e = absurd cc
end_unsaid ends.Memory steps said is e = absurd cc
end_unsaid ends.Limit steps said is e = is
end_unsaid ends.WriteFault steps said is e = is
end_unsaid ends.NoMemory steps said is e = is

module _ (shelf : Shelf) (left : Vm) (steps : ℕ) (snap : List ℕ) (files_old files_new : Option FileOf) where
  -- saving a state changes no other file
  state_only : (ending : Ending) → SavesState snap files_old files_new shelf left steps ending → ChangesOnly files_old files_new snap
  state_only Done h = absurd h
  state_only (Unaccepted fault) h = absurd h
  state_only (Unread fault) h = absurd h
  state_only (Unverified fault) h = absurd h
  state_only (Unmerged fault) h = absurd h
  state_only (Unopened fault) h = absurd h
  state_only (Unfrozen fault) h = absurd h
  state_only (Unboarded fault) h = absurd h
  state_only (Different difference) h = absurd h
  state_only (Stopped (Past limit)) h = absurd h
  state_only (Stopped (LibraryFault path)) h = absurd h
  state_only (Stopped (LibraryUnaccepted source)) h = absurd h
  state_only (Stopped Raised) h = absurd h
  state_only (Stopped Memory) h = absurd h
  state_only (Stopped (Steps count)) h = became_only files_old files_new snap h.0.0 h.0.2
  state_only (Stopped Unsaved) h = same_only files_old files_new snap h.1
  state_only (Stopped (Unresumed fault)) h = absurd h
  state_only ReadFault h = absurd h
  state_only WriteFault h = absurd h
  state_only Unwritten h = front_only files_old files_new snap h.0 h.2
  state_only NoMemory h = same_only files_old files_new snap h
  state_only Absent h = absurd h

module _ (shelf : Shelf) (vm : Vm) (steps : ℕ) (old new : Sight) (said : List ℕ) (files_old files_new : Option FileOf) where
  abbrev Went : Option (List ℕ) → Ending → Type 0
  Went saved ending = WentOn shelf vm steps old new said files_old files_new saved ending

  on_unsaid : (saved : Option (List ℕ)) (ending : Ending) → Went saved ending → is_said ending ≡ false → said ≡ []
  on_unsaid None ending h e = end_unsaid h.end steps said h.went.is_said (ap is_said (sym h.is) ∙ e)
  on_unsaid (Some snap) ending (inl h) e = end_unsaid h.0.end steps said h.0.went.is_said (ap is_said (sym h.0.is) ∙ e)
  on_unsaid (Some snap) ending (inr h) e = h.went.is_said

  on_same : (ending : Ending) → Went None ending → files_new ≡ files_old
  on_same ending h = h.files

  on_only : (snap : List ℕ) (ending : Ending) → Went (Some snap) ending → ChangesOnly files_old files_new snap
  on_only snap ending (inl h) = same_only files_old files_new snap h.0.files
  on_only snap ending (inr h) = state_only shelf h.left steps snap files_old files_new ending h.saves

-- the command
-- ===========

module _ (snap : List ℕ) (words : List (List ℕ)) (save : Option ℕ) (steps : ℕ) (old new : Sight) (said : List ℕ) (files_old files_new : Option FileOf) where
  abbrev Resumed : (Comes : Result Shelf Ending → Type 0) (place : ℕ) → Ending → Type 0
  Resumed Comes place ending = Resumes Comes snap words save steps old new said files_old files_new place ending

  -- what is said of it is said in the run
  pub resumed_unsaid : (Comes : Result Shelf Ending → Type 0) (place : ℕ) (ending : Ending) → Resumed Comes place ending → is_said ending ≡ false → said ≡ []
  resumed_unsaid Comes place ending (inl h) e = h.untouched.says
  resumed_unsaid Comes place ending (inr (inl h)) e = h.untouched.says
  resumed_unsaid Comes place ending (inr (inr h)) e = on_unsaid h.shelf h.vm steps old new said files_old files_new (saved_name words save) ending h.went e

  -- what is known of each result that loading comes to is known of the command
  pub resumed_known : (Comes Known : Result Shelf Ending → Type 0) → ((r : Result Shelf Ending) → Comes r → Known r) → (place : ℕ) (ending : Ending) → Resumed Comes place ending → Resumed Known place ending
  resumed_known Comes Known known place ending (inl h) =
      inl (record { comes = known (Err ending) h.comes; place_is = h.place_is; untouched = h.untouched; files = h.files })
  resumed_known Comes Known known place ending (inr (inl h)) =
      inr (inl (record { shelf = h.shelf; comes = known (Ok h.shelf) h.comes; refuses = h.refuses; place_is = h.place_is; untouched = h.untouched; files = h.files }))
  resumed_known Comes Known known place ending (inr (inr h)) =
      inr (inr (record { shelf = h.shelf; comes = known (Ok h.shelf) h.comes; vm = h.vm; holds = h.holds; went = h.went; place_is = h.place_is }))

  -- no file changes but the one that is saved to, if one is
  pub resumed_same : (Comes : Result Shelf Ending → Type 0) (place : ℕ) (ending : Ending) → saved_name words save ≡ None → Resumed Comes place ending → files_new ≡ files_old
  resumed_same Comes place ending e (inl h) = h.files
  resumed_same Comes place ending e (inr (inl h)) = h.files
  resumed_same Comes place ending e (inr (inr h)) =
      on_same h.shelf h.vm steps old new said files_old files_new ending (subst (λ (saved : Option (List ℕ)). WentOn h.shelf h.vm steps old new said files_old files_new saved ending) e h.went)

  pub resumed_only : (Comes : Result Shelf Ending → Type 0) (place : ℕ) (ending : Ending) (to : List ℕ) → saved_name words save ≡ Some to → Resumed Comes place ending → ChangesOnly files_old files_new to
  resumed_only Comes place ending to e (inl h) = same_only files_old files_new to h.files
  resumed_only Comes place ending to e (inr (inl h)) = same_only files_old files_new to h.files
  resumed_only Comes place ending to e (inr (inr h)) =
      on_only h.shelf h.vm steps old new said files_old files_new to ending (subst (λ (saved : Option (List ℕ)). WentOn h.shelf h.vm steps old new said files_old files_new saved ending) e h.went)

  -- the snapshot is refused, and nothing was done
  pub is_refused : (shelf : Shelf) (given result : Ending) (place : ℕ) → result ≡ given → place ≡ 2 → RefusesState shelf files_old snap given → Untouched old new said → files_new ≡ files_old
      → Resumed (λ (r : Result Shelf Ending). r ≡ Ok shelf) place result
  is_refused shelf given result place e p h nothing same =
      inr (inl (record { shelf = shelf; comes = refl; refuses = subst (λ (x : Ending). RefusesState shelf files_old snap x) (sym e) h; place_is = p; untouched = nothing; files = same }))

  -- the machine of its state went on
  pub has_resumed : (shelf : Shelf) (vm : Vm) (ending : Ending) (place : ℕ) → place ≡ place_to save ending → HoldsState shelf files_old snap vm
      → WentOn shelf vm steps old new said files_old files_new (saved_name words save) ending → Resumed (λ (r : Result Shelf Ending). r ≡ Ok shelf) place ending
  has_resumed shelf vm ending place p h went = inr (inr (record { shelf = shelf; comes = refl; vm = vm; holds = h; went = went; place_is = p }))

-- where nothing was done
pub untouched : (here there : Sight) → there ≡ here → Untouched here there []
untouched here there e = record {
  prints = subst (λ (sight : Sight). Keeps here.out sight.out) (sym e) (Keeps-refl here.out);
  ports = ap (λ (sight : Sight). sight.ports) e;
  says = refl;
}
