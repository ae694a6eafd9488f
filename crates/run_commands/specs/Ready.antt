-- Which library a command has, and its main module.
use Rattle.std.specs.Prelude.{◌≡◌, ◌≤◌, ℕ, Bool, true, false, List, [], ◌∷◌, length, ◌==◌, ◌&&◌, Option, Some, Result, Ok, Err}
use Rattle.mpy_base.specs.declared.limits.TheConstants.{MAX_READ_BYTES}
use Rattle.mpy_io.specs.Files.{FileOf}
use Rattle.bc_library.specs.mpy_tree.Raw.{Module}
use Rattle.bc_library.specs.mpy_tree.File.{IsFile}
use Rattle.bc_library.specs.bc_verify.Verified.{IsVerified}
use Rattle.bc_library.specs.Shelf.{Shelf}
use Rattle.library_files.specs.Loads.{main_name}
use Rattle.command_files.specs.image_runs.Main.{HoldsMain, RefusesMain}
use Rattle.command_files.specs.mpy_endings.declared.ending.Ending.{Ending}
use Rattle.command_files.specs.mpy_endings.declared.ending.Ending.TheVariants.{Done, Unaccepted, Unread, Unverified, Unmerged}
use Rattle.command_files.specs.mpy_endings.declared.ending.Ending.TheVariants.{Unopened, Unfrozen, Unboarded, Different, Stopped}
use Rattle.command_files.specs.mpy_endings.declared.ending.Ending.TheVariants.{ReadFault, WriteFault, Unwritten, NoMemory, Absent}
use Rattle.run_commands.specs.declared.ready.Ready.{Ready}
use Rattle.command_files.specs.Folder.{MayHold, IsNotRead}
use Rattle.run_commands.specs.Go.{SourceLibrary}
use Rattle.command_files.specs.Opened.{Opens}
use Rattle.run_commands.specs.Run.{FileLibrary}

-- the main module is the first one, `__main__`
pub record IsFirst (ready : Ready) : Type 0 where
  pub place_is : ready.place ≡ 0
  pub main_is : ready.main ≡ main_name

-- what comes to a library, with its first module as the main one
abbrev pub FirstOf : (Result Shelf Ending → Type 0) → Result Ready Ending → Type 0
FirstOf Comes (Ok ready) = Comes (Ok ready.library) × IsFirst ready
FirstOf Comes (Err ending) = Comes (Err ending)

-- what reading and verifying the bytes of a main file gives
abbrev pub OpensMain : (bytes : List ℕ) → Result (Module × ℕ) Ending → Type 0
OpensMain bytes (Ok main) = IsFile bytes main.0 × IsVerified main.0 × (main.1 ≡ length bytes)
OpensMain bytes (Err ending) = Opens bytes (Err ending)

-- what `go SRC` is to run: the library of the source, or why there is none
abbrev pub GoLibrary : (level : ℕ) → Option FileOf → (name : List ℕ) → Result Ready Ending → Type 0
GoLibrary level files name answer = FirstOf (SourceLibrary level files name) answer

-- run FILE
-- ========

-- the bytes begin as those of an image
abbrev pub begins_image : List ℕ → Bool
begins_image [] = false
begins_image (first ∷ []) = false
begins_image (first ∷ second ∷ rest) = first == 0x4d && second == 0x49

-- the library of an image over the library below with the main module of this name, of either, or what keeps it from being run
abbrev pub ImageStart : (below : Shelf) → (main bytes : List ℕ) → Result Ready Ending → Type 0
ImageStart below main bytes (Ok ready) = HoldsMain below bytes main ready.library ready.place × (ready.main ≡ main)
ImageStart below main bytes (Err (Unopened fault)) = RefusesMain below bytes main fault
ImageStart below main bytes (Err NoMemory) = Unit {0}
ImageStart below main bytes (Err Done) = ⊥
ImageStart below main bytes (Err (Unaccepted fault)) = ⊥
ImageStart below main bytes (Err (Unread fault)) = ⊥
ImageStart below main bytes (Err (Unverified fault)) = ⊥
ImageStart below main bytes (Err (Unmerged fault)) = ⊥
ImageStart below main bytes (Err (Unfrozen fault)) = ⊥
ImageStart below main bytes (Err (Unboarded fault)) = ⊥
ImageStart below main bytes (Err (Different difference)) = ⊥
ImageStart below main bytes (Err (Stopped stop)) = ⊥
ImageStart below main bytes (Err ReadFault) = ⊥
ImageStart below main bytes (Err WriteFault) = ⊥
ImageStart below main bytes (Err Unwritten) = ⊥
ImageStart below main bytes (Err Absent) = ⊥

-- the library of the file under the name: of an image over the library below where its bytes, which can be read, begin as one, with the main module of that
-- name, and else of a file, which has no use for what lies below. Or what keeps it from being run
pub data RunLibrary (below : Shelf) (main : List ℕ) (files : Option FileOf) (name : List ℕ) (answer : Result Ready Ending) : Type 0 where
  not_read : (ending : Ending) → IsNotRead files name ending → answer ≡ Err ending → RunLibrary below main files name answer
  of_file : (bytes : List ℕ) → MayHold files name (Some bytes) → begins_image bytes ≡ false → FirstOf (FileLibrary files name) answer
      → RunLibrary below main files name answer
  of_image : (bytes : List ℕ) → MayHold files name (Some bytes) → length bytes ≤ MAX_READ_BYTES → begins_image bytes ≡ true
      → ImageStart below main bytes answer → RunLibrary below main files name answer
