-- What keeps the file that is to be run from being read, and what its bytes come to.
use Rattle.std.proofs.Common.{◌≡◌, ◌≤◌, ℕ, Bool, true, false, List, length, Option, Some, Result, Ok, Err, refl, sym, ap, subst, ◌∙◌}
use Rattle.std.specs.Prelude.{IfOk, IfErr}
use Rattle.mpy_base.specs.declared.limits.TheConstants.{MAX_READ_BYTES}
use Rattle.mpy_io.specs.Files.{FileOf}
use Rattle.bc_library.specs.Shelf.{Shelf}
use Rattle.command_files.specs.mpy_endings.declared.ending.Ending.{Ending}
use Rattle.command_files.specs.mpy_endings.declared.ending.Ending.TheVariants.{Done, Unaccepted, Unread, Unverified, Unmerged, Unopened, Unfrozen, Unboarded, Different, Stopped, ReadFault, WriteFault, Unwritten, NoMemory, Absent}
use Rattle.command_files.specs.mpy_endings.Ending.{is_folder_fault}
use Rattle.run_commands.specs.declared.ready.Ready.{Ready}
use Rattle.command_files.specs.Folder.{MayHold, IsNotRead}
use Rattle.command_files.specs.Opened.{failed_in}
use Rattle.run_commands.specs.Ready.{FirstOf, IsFirst, ImageStart, RunLibrary, of_file, of_image, begins_image}
use Rattle.run_commands.specs.Run.{FileLibrary, IsUnloaded}

-- a file that wasn't read
-- =======================

pub unread_unloaded : (files : Option FileOf) (name : List ℕ) (ending : Ending) → IsNotRead files name ending → IsUnloaded ending
unread_unloaded files name Done h = absurd h
unread_unloaded files name (Unaccepted fault) h = absurd h
unread_unloaded files name (Unread fault) h = tt
unread_unloaded files name (Unverified fault) h = absurd h
unread_unloaded files name (Unmerged fault) h = absurd h
unread_unloaded files name (Unopened fault) h = absurd h
unread_unloaded files name (Unfrozen fault) h = absurd h
unread_unloaded files name (Unboarded fault) h = absurd h
unread_unloaded files name (Different difference) h = absurd h
unread_unloaded files name (Stopped stop) h = absurd h
unread_unloaded files name ReadFault h = tt
unread_unloaded files name WriteFault h = absurd h
unread_unloaded files name Unwritten h = absurd h
unread_unloaded files name NoMemory h = tt
unread_unloaded files name Absent h = tt

-- the first module as the main one
-- ================================

pub first_of : (Comes : Result Shelf Ending → Type 0) (loaded : Result Shelf Ending) (result : Result Ready Ending) → Comes loaded
    → IfOk result (λ ready. (loaded ≡ Ok ready.library) × IsFirst ready) → IfErr result (λ ending. loaded ≡ Err ending) → FirstOf Comes result
first_of Comes loaded (Ok ready) comes ok err = (subst Comes ok.0 comes, ok.1)
first_of Comes loaded (Err ending) comes ok err = subst Comes err comes

pub first_failed : (loaded : Result Shelf Ending) (result : Result Ready Ending) → IfOk result (λ ready. (loaded ≡ Ok ready.library) × IsFirst ready) → IfErr result (λ ending. loaded ≡ Err ending)
    → failed_in loaded ≡ failed_in result
first_failed loaded (Ok ready) ok err = ap (failed_in {A = Shelf}) ok.0
first_failed loaded (Err ending) ok err = ap (failed_in {A = Shelf}) err

pub first_unloaded : (loaded : Result Shelf Ending) (result : Result Ready Ending) → IfErr loaded IsUnloaded → IfErr result (λ ending. loaded ≡ Err ending) → IfErr result IsUnloaded
first_unloaded loaded (Ok ready) h err = tt
first_unloaded loaded (Err ending) h err = subst (λ (r : Result Shelf Ending). IfErr r IsUnloaded) err h

-- an image
-- ========

module _ (below : Shelf) (main bytes : List ℕ) where
  image_refused : (ending : Ending) → ImageStart below main bytes (Err ending) → IsUnloaded ending × (is_folder_fault ending ≡ false)
  image_refused Done h = absurd h
  image_refused (Unaccepted fault) h = absurd h
  image_refused (Unread fault) h = absurd h
  image_refused (Unverified fault) h = absurd h
  image_refused (Unmerged fault) h = absurd h
  image_refused (Unopened fault) h = (tt, refl)
  image_refused (Unfrozen fault) h = absurd h
  image_refused (Unboarded fault) h = absurd h
  image_refused (Different difference) h = absurd h
  image_refused (Stopped stop) h = absurd h
  image_refused ReadFault h = absurd h
  image_refused WriteFault h = absurd h
  image_refused Unwritten h = absurd h
  image_refused NoMemory h = (tt, refl)
  image_refused Absent h = absurd h

  pub image_unloaded : (result : Result Ready Ending) → ImageStart below main bytes result → IfErr result IsUnloaded
  image_unloaded (Ok ready) h = tt
  image_unloaded (Err ending) h = (image_refused ending h).0

  pub image_counted : (result : Result Ready Ending) → ImageStart below main bytes result → failed_in result ≡ false
  image_counted (Ok ready) h = refl
  image_counted (Err ending) h = (image_refused ending h).1

module _ (below : Shelf) (main : List ℕ) (files : Option FileOf) (name bytes read : List ℕ) (begins : Bool) (result : Result Ready Ending) where
  pub image_run : (word : List ℕ) → read ≡ bytes → word ≡ main → MayHold files name (Some bytes) → length bytes ≤ MAX_READ_BYTES → begins ≡ begins_image read → begins ≡ true → ImageStart below word read result → RunLibrary below main files name result
  image_run word e f holds short is true_is h =
      of_image bytes holds short (sym (is ∙ ap begins_image e) ∙ true_is)
      (subst (λ (m : List ℕ). ImageStart below m bytes result) f (subst (λ (b : List ℕ). ImageStart below word b result) e h))

  pub file_run : read ≡ bytes → MayHold files name (Some bytes) → begins ≡ begins_image read → begins ≡ false → FirstOf (FileLibrary files name) result → RunLibrary below main files name result
  file_run e holds is false_is h = of_file bytes holds (sym (is ∙ ap begins_image e) ∙ false_is) h
