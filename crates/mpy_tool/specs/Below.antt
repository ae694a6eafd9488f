-- Commands over the library of a base, or over one of no entries where no base is ordered.
use Rattle.std.specs.Prelude.{◌≡◌, ◌⊎◌, ℕ, List, [], Option, Some, None, slice_index_or}
use Rattle.image_open.specs.image_grammar.bc_library.Shelf.{Shelf, no_entries}
use Rattle.image_open.specs.image_grammar.Base.{IsOpened}
use Rattle.board_command.specs.command_files.Over.{EndsAtBase, WentOver}
use Rattle.mpy_tool.specs.Call.{Call, Shows}

-- the version of the image that `freeze` writes: 1 where no base is ordered, and 2 over one
abbrev pub image_version : (base : Option ℕ) → ℕ
image_version None = 1
image_version (Some at) = 2

-- the library that a command lies over: that of a base, or one of no entries
abbrev pub library_below : Option Shelf → Shelf
library_below None = no_entries
library_below (Some below) = below

-- there is the library of a base, on which images may lie, only where a base is ordered
abbrev pub MayLieBelow : Option Shelf → (base : Option ℕ) → Type 0
MayLieBelow None base = Unit {0}
MayLieBelow (Some below) None = ⊥
MayLieBelow (Some below) (Some at) = IsOpened below

module _ (call : Call) where
  -- the base of this name isn't opened, and nothing was done but to say so
  abbrev pub StopsAtBase : (base : List ℕ) → Type 0
  StopsAtBase base = Shows call (EndsAtBase base) × (call.ports_new ≡ call.ports_old)

  -- Without a base it went so over a library of no entries. A base, the word at the place, is opened before all else, and it went so
  -- over its library.
  abbrev pub Based : Option ℕ → (Went : Shelf → Type 0) → Type 0
  Based None Went = Went no_entries
  Based (Some at) Went = StopsAtBase (slice_index_or call.words at []) ⊎ WentOver Went call.old.files (slice_index_or call.words at [])
