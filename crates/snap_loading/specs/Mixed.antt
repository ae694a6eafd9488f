-- The heap of a snapshot's objects of which the first are filled.
use Rattle.std.specs.Prelude.{◌≡◌, ℕ, zero, suc, ◌-◌, List, [], ◌∷◌, ◌++◌, replicate, Option, Some, None}
use Rattle.mpy_base.specs.World.{Heap}
use Rattle.arena_heap.specs.declared.value.Value.{Value}
use Rattle.arena_heap.specs.Values.{ArenaObject}
use Rattle.bc_library.specs.Shelf.{Shelf}
use Rattle.snap_grammar.specs.declared.parts.ObjectPart.{ObjectPart}
use Rattle.snap_grammar.specs.declared.parts.Snapshot.{Snapshot}
use Rattle.snap_states.specs.Parts.{more_cells, cells_of_parts}
use Rattle.snap_states.specs.Decoded.{object_of}
use Rattle.snap_loading.specs.Shells.{shell_of}

-- the cells of objects of which the first i are made the one way, the others the other way
abbrev pub mixed : (full shell : ObjectPart → ArenaObject) → (i : ℕ) → List ObjectPart → List (Option ArenaObject)
mixed full shell i [] = []
mixed full shell zero (o ∷ os) = (Some (shell o) ∷ replicate (more_cells o) None) ++ mixed full shell zero os
mixed full shell (suc i) (o ∷ os) = (Some (full o) ∷ replicate (more_cells o) None) ++ mixed full shell i os

module _ (shelf : Shelf) (s : Snapshot) where
  -- the heap of which the first i objects are filled
  abbrev pub heap_mixed : (title : ℕ → ℕ → ℕ) → (i : ℕ) → Heap Value ℕ
  heap_mixed title i = record {
    objects = mixed (object_of shelf s title) (shell_of shelf s title) i s.objects ++ replicate (s.used_cells - cells_of_parts s.objects) None;
    bytes = s.used_bytes;
    cell_size = s.cells;
    byte_size = s.bytes;
  }

  -- a heap is that, whatever the codes' names have as numbers
  abbrev pub IsFilledTo : ℕ → Heap Value ℕ → Type 0
  IsFilledTo i heap = (title : ℕ → ℕ → ℕ) × (heap ≡ heap_mixed title i)
