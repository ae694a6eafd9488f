-- Commands that end in one way only, and those that are done.
use Rattle.std.specs.Prelude.{◌≡◌, ◌⊎◌, ◌≢◌, ℕ, List, Some}
use Rattle.mpy_io.specs.Files.{FileOf}
use Rattle.bc_library.specs.Shelf.{Shelf}
use Rattle.mpy_endings.specs.declared.ending.Ending.{Ending}
use Rattle.mpy_endings.specs.declared.ending.Ending.TheVariants.{Done}
use Rattle.mpy_endings.specs.Ending.{IsSettled}
use Rattle.command_files.specs.Outside.{Outside}
use Rattle.command_files.specs.Over.{EndsAtBase, WentOver}

-- of two ways in which a command may end, neither cut short by a call that failed outside or by want of memory, there is one ending
abbrev pub EndOnce : (One Other : Ending → Type 0) → Type 0
EndOnce One Other = (one other : Ending) → IsSettled one → IsSettled other → One one → Other other → one ≡ other

-- a command that ends so is done, unless a call that failed outside or want of memory cuts it short
abbrev pub IsDone : (Ends : Ending → Type 0) → Type 0
IsDone Ends = (ending : Ending) → IsSettled ending → Ends ending → ending ≡ Done

-- statuses
-- ========

-- neither of a call that failed outside nor of want of memory
pub record IsSettledStatus (status : ℕ) : Type 0 where
  pub reads : status ≢ 7
  pub writes : status ≢ 8
  pub memory : status ≢ 9

-- a call that went so in a folder that tells these files, with this status, and wasn't cut short
pub record Settled (Went : (old new : Outside) → (status : ℕ) → Type 0) (files : FileOf) (status : ℕ) : Type 0 where
  pub old : Outside
  pub new : Outside
  pub tells : old.files ≡ Some files
  pub went : Went old new status
  pub settled : IsSettledStatus status

-- calls that go so on the same files, and aren't cut short, have one status
abbrev pub OneStatus : (Went : (old new : Outside) → (status : ℕ) → Type 0) → FileOf → Type 0
OneStatus Went files = (one other : ℕ) → Settled Went files one → Settled Went files other → one ≡ other

-- a call that goes so on these files, and isn't cut short, has status 0
abbrev pub Succeeds : (Went : (old new : Outside) → (status : ℕ) → Type 0) → FileOf → Type 0
Succeeds Went files = (status : ℕ) → Settled Went files status → status ≡ 0

-- a call over a base: the base's file isn't opened, or the call went so over its library
abbrev pub OverBase : (base : List ℕ) → (Went : (below : Shelf) → (old new : Outside) → (status : ℕ) → Type 0) → (old new : Outside) → (status : ℕ) → Type 0
OverBase base Went old new status = EndsAtBase base old new status ⊎ WentOver (λ below. Went below old new status) old.files base
