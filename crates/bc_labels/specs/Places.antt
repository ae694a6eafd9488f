-- Where the items stand, and the offsets of the jumps, under a choice of widths: whether the offset of each item is wide.
use Rattle.std.specs.Prelude.{ℕ, zero, suc, ◌+◌, List, [], ◌∷◌, ◌++◌, length, slice_index_or, Bool, false, if◌then◌else◌, ℤ, pos, ◌-ℤ◌}
use Rattle.bc_ops.specs.Code.{spelling}
use Rattle.bc_labels.specs.declared.labelled.Labelled.{Labelled}
use Rattle.bc_labels.specs.declared.labelled.Labelled.TheVariants.{At, Plain, Jump, Unwind}
use Rattle.bc_labels.specs.Labels.{target_of}

-- the item at the position
abbrev pub item_at : List Labelled → ℕ → Labelled
item_at items i = slice_index_or items i (At 0)

-- is its offset wide?
abbrev pub width_at : List Bool → ℕ → Bool
width_at widths i = slice_index_or widths i false

-- the bytes of an offset
abbrev pub offset_size : Bool → ℕ
offset_size wide = if wide then 2 else 1

-- the bytes of an item
abbrev pub size_of : Labelled → Bool → ℕ
size_of (At label) wide = 0
size_of (Plain instr) wide = length (spelling instr)
size_of (Jump op label) wide = 1 + offset_size wide
size_of (Unwind label byte) wide = 1 + offset_size wide + 1

-- the bytes of the items in front
abbrev pub place : List Labelled → List Bool → ℕ → ℕ
place items widths zero = 0
place items widths (suc i) = place items widths i + size_of (item_at items i) (width_at widths i)

-- from the end of the offset's own bytes to the item that the jump goes to
abbrev pub offset : List Labelled → List Bool → ℕ → ℤ
offset items widths i =
    pos (place items widths (target_of items (item_at items i))) -ℤ pos (place items widths i + 1 + offset_size (width_at widths i))

-- the places of the first items, as many as the third argument says
abbrev pub places_to : List Labelled → List Bool → ℕ → List ℕ
places_to items widths zero = []
places_to items widths (suc i) = places_to items widths i ++ place items widths i ∷ []
