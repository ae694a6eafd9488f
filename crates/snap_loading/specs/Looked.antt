-- What is looked up of a library and a snapshot while its state is made.
use Rattle.std.specs.Prelude.{◌≡◌, ℕ, ◌+◌, ◌≤◌, List, length, Some, slice_get}
use Rattle.snap_grammar.specs.declared.parts.ObjectPart.{ObjectPart}
use Rattle.snap_states.specs.Parts.{cell_of}
use Rattle.snap_states.specs.Decoded.{constant_from}
use Rattle.snap_loading.specs.declared.lookup.Lookup.{Lookup}
use Rattle.snap_loading.specs.Texts.{beside}

-- the first cell of each object, and the cell behind all of them
pub record AreCells (objects : List ObjectPart) (cells : List ℕ) : Type 0 where
  pub long : length cells ≡ length objects + 1
  pub each : (n : ℕ) → n ≤ length objects → slice_get cells n ≡ Some (cell_of objects n)

-- the cells are those of the snapshot's objects, and strs are found by their texts
pub record IsLookup (l : Lookup) : Type 0 where
  pub cells : AreCells l.snapshot.now.objects l.cells.items
  pub strs : (text : List ℕ) → beside l.strs.entries text ≡ constant_from 0 l.library.now.modules text
