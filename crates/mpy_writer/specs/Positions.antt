-- Items laid out by their positions, without labels.
use Rattle.std.specs.Prelude.{◌≡◌, ℕ, zero, suc, ◌<◌, List, [], ◌∷◌, ◌++◌, length, map, Bool, true, false, ℤ, pos}
use Rattle.std.specs.List.{flat_map}
use Rattle.mpy_tree.specs.bc_ops.declared.instr.Instr.{Instr}
use Rattle.mpy_tree.specs.bc_ops.declared.instr.Instr.TheVariants as instrs
use Rattle.mpy_tree.specs.bc_ops.Table.{code_of, form_of}
use Rattle.mpy_tree.specs.bc_ops.Code.{spelling, is_signed, IsEncodable}
use Rattle.bc_labels.specs.declared.labelled.Labelled.{Labelled}
use Rattle.bc_labels.specs.declared.labelled.Labelled.TheVariants as labels
use Rattle.bc_labels.specs.Labels.{HasNoOffset, HasOffset}
use Rattle.bc_labels.specs.Labels as labelled
use Rattle.bc_labels.specs.Places.{item_at, width_at, places_to}
use Rattle.bc_labels.specs.Choice.{instr_of}
use Rattle.mpy_tree.specs.declared.module.Item.{Item}
use Rattle.mpy_tree.specs.declared.module.Item.TheVariants as items
use Rattle.mpy_writer.specs.declared.tables.Tables.{Tables}
use Rattle.mpy_writer.specs.File.{item_of}

-- an item that names another
-- ==========================

-- does the item name another?
abbrev pub is_jump : Item → Bool
is_jump (items.Jump op position) = true
is_jump (items.Unwind position byte) = true
is_jump item = false

-- the position that it names, and 0 for another item
abbrev pub position_in : Item → ℕ
position_in (items.Jump op position) = position
position_in (items.Unwind position byte) = position
position_in item = 0

-- is its offset signed?
abbrev pub signed_in : Item → Bool
signed_in (items.Jump op position) = is_signed (form_of (code_of op))
signed_in item = true

-- the instruction of an item that names another, by the offset; none of other items
abbrev pub jump_in : Item → ℤ → Bool → List Instr
jump_in (items.Jump op position) offset wide = instrs.Jump op offset wide ∷ []
jump_in (items.Unwind position byte) offset wide = instrs.Unwind offset wide byte ∷ []
jump_in item offset wide = []

-- the bytes of an item that names another, of which one is the offset's; 0 of other items
abbrev pub short_size : Item → ℕ
short_size (items.Jump op position) = 2
short_size (items.Unwind position byte) = 3
short_size item = 0

-- a list of items
-- ===============

-- the position that a labelled item names, and 0 for another item
abbrev pub position_of : Labelled → ℕ
position_of (labels.Jump op position) = position
position_of (labels.Unwind position byte) = position
position_of item = 0

-- the item may be written, and a jump names one of `count` instructions
abbrev pub IsPlaced : ℕ → Labelled → Type 0
IsPlaced count (labels.At label) = ⊥
IsPlaced count (labels.Plain instr) = IsEncodable instr × HasNoOffset instr
IsPlaced count (labels.Jump op position) = HasOffset (form_of (code_of op)) op × (position < count)
IsPlaced count (labels.Unwind position byte) = position < count

-- the items with numbers in place of texts and objects
abbrev pub numbered : Tables → List Item → List Labelled
numbered tables items = map (item_of tables) items

-- the bytes of the first items, as many as the second argument says, where each offset is 0 and takes one byte
abbrev pub drafted_to : List Labelled → ℕ → List ℕ
drafted_to items zero = []
drafted_to items (suc i) = drafted_to items i ++ flat_map spelling (instr_of (item_at items i) (pos 0) false)

-- the bytes of all items where each offset is 0 and takes one byte
abbrev pub drafted : Tables → List Item → List ℕ
drafted tables items = drafted_to (numbered tables items) (length items)

-- where the items start
abbrev pub starts_of : Tables → List Item → List Bool → List ℕ
starts_of tables items widths = places_to (numbered tables items) widths (length items)

-- only jumps have wide offsets
abbrev pub OnlyJumps : List Labelled → List Bool → Type 0
OnlyJumps items widths = (i : ℕ) → width_at widths i ≡ true → labelled.is_jump (item_at items i) ≡ true

-- the widths of the items with a label in front of each
abbrev pub spread : List Bool → List Bool
spread [] = []
spread (wide ∷ widths) = false ∷ wide ∷ spread widths
