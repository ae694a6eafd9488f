-- What makings take of an arena's cells and bytes, and when they fit.
use Rattle.std.specs.Prelude.{◌≡◌, ℕ, zero, suc, ◌+◌, ◌*◌, ◌-◌, ◌^◌, ◌≤◌, min, Bool, true, false, ◌&&◌, nat_le, List, [], ◌∷◌}
use Rattle.std.specs.Prelude.{◌++◌, length, Some, None, replicate, if◌then◌else◌}
use Rattle.mpy_base.specs.declared.room.NoRoom.{NoRoom}
use Rattle.mpy_base.specs.World.{Object, ListObject, TupleObject, TextObject, DictObject, FunctionObject, ExceptionObject}
use Rattle.mpy_base.specs.World.{MethodObject, RangeObject, ModuleObject, Heap, items_at, pairs_at, room_at, with_object}

-- the cells of an object behind its first
abbrev pub more_cells : {V N : Type 0} → Object V N → ℕ
more_cells (ListObject items room) = 2 + room
more_cells (TupleObject items) = length items
more_cells (TextObject bytes) = 1
more_cells (DictObject pairs room) = 2 + 3 * room
more_cells (FunctionObject name module_name code names defaults) = 3
more_cells (ExceptionObject kind args file line name) = 5
more_cells (MethodObject value method) = 2
more_cells (RangeObject start stop step) = 3
more_cells (ModuleObject name names) = 3

-- how many cells an object takes
abbrev pub cells_of : {V N : Type 0} → Object V N → ℕ
cells_of o = suc (more_cells o)

-- how many bytes an object takes
abbrev pub bytes_of : {V N : Type 0} → Object V N → ℕ
bytes_of (TextObject bytes) = length bytes
bytes_of _ = 0

-- 4, 8, 16 and so on
abbrev pub IsRoom : ℕ → Type 0
IsRoom room = (k : ℕ) × (room ≡ 4 * 2 ^ k)

-- the least of them that holds `items` items
pub record IsRoomFor (items room : ℕ) : Type 0 where
  pub is_room : IsRoom room
  pub holds : items ≤ room
  pub least : (other : ℕ) → IsRoom other → items ≤ other → room ≤ other

-- the room, doubled until it holds the items, as many times at most as the first argument says
abbrev pub doubled : ℕ → ℕ → ℕ → ℕ
doubled zero room items = room
doubled (suc times) room items = elim (nat_le items room) [ true ↦ room | false ↦ doubled times (2 * room) items ]

-- the room of a list or dict that is made for `items` items
abbrev pub room_for : ℕ → ℕ
room_for items = doubled items 4 items

-- how many cells are used
abbrev pub used : {V N : Type 0} → Heap V N → ℕ
used heap = length heap.objects

-- a heap of that room in which nothing was made
abbrev pub empty : {V N : Type 0} → ℕ → ℕ → Heap V N
empty cells bytes = record { objects = []; bytes = 0; cell_size = cells; byte_size = bytes }

-- `cells` cells and `bytes` bytes are left
pub record Fits {V N : Type 0} (heap : Heap V N) (cells bytes : ℕ) : Type 0 where
  pub cells_fit : used heap + cells ≤ heap.cell_size
  pub bytes_fit : heap.bytes + bytes ≤ heap.byte_size

-- `cells` cells and `bytes` bytes are left, as a test
abbrev pub does_fit : {V N : Type 0} → Heap V N → ℕ → ℕ → Bool
does_fit heap cells bytes = nat_le (used heap + cells) heap.cell_size && nat_le (heap.bytes + bytes) heap.byte_size

-- what is said of a making that asks for more: of the cells, if those don't fit
abbrev pub no_room : {V N : Type 0} → Heap V N → ℕ → ℕ → NoRoom
no_room heap cells bytes =
    if nat_le (used heap + cells) heap.cell_size
    then record { asked = min bytes (2 ^ 64 - 1); used = heap.bytes; size = heap.byte_size; bytes = true }
    else record { asked = min cells (2 ^ 64 - 1); used = used heap; size = heap.cell_size; bytes = false }

-- one object more, at the number of cells that were used
abbrev pub with_made : {V N : Type 0} → Heap V N → Object V N → Heap V N
with_made heap o =
    record heap { objects = heap.objects ++ (Some o ∷ replicate (more_cells o) None); bytes = heap.bytes + bytes_of o }

-- cells that are used, and belong to no new object
abbrev pub with_used : {V N : Type 0} → Heap V N → ℕ → Heap V N
with_used heap cells = record heap { objects = heap.objects ++ replicate cells None }

-- a making that fitted
pub record Made {V N : Type 0} (old new : Heap V N) (n : ℕ) (o : Object V N) : Type 0 where
  pub fits : Fits old (cells_of o) (bytes_of o)
  pub number : n ≡ used old
  pub world : new ≡ with_made old o

-- one that didn't fit, and left everything as it was
pub record Refused {V N : Type 0} (old new : Heap V N) (e : NoRoom) (cells bytes : ℕ) : Type 0 where
  pub too_much : Fits old cells bytes → ⊥
  pub told : e ≡ no_room old cells bytes
  pub unchanged : new ≡ old

-- the cells that the list `n` asks for when it is to hold `items` items: none while its room holds them
abbrev pub list_growth : {V N : Type 0} → Heap V N → ℕ → ℕ → ℕ
list_growth heap n items = if nat_le items (room_at heap n) then 0 else room_for items

-- the cells that the dict `n` asks for when it is to hold `pairs` pairs: none while its room holds them
abbrev pub dict_growth : {V N : Type 0} → Heap V N → ℕ → ℕ → ℕ
dict_growth heap n pairs = if nat_le pairs (room_at heap n) then 0 else 3 * room_for pairs

-- the room that the list or dict `n` has when it holds `items` items or pairs
abbrev pub grown_room : {V N : Type 0} → Heap V N → ℕ → ℕ → ℕ
grown_room heap n items = if nat_le items (room_at heap n) then room_at heap n else room_for items

-- a list with the same items, in a room that holds `items` items. The cells that it had stay used
abbrev pub with_list_room : {V N : Type 0} → Heap V N → ℕ → ℕ → Heap V N
with_list_room heap n items =
    with_object (with_used heap (list_growth heap n items)) n (ListObject (items_at heap n) (grown_room heap n items))

-- a dict with the same pairs, in a room that holds `pairs` pairs
abbrev pub with_dict_room : {V N : Type 0} → Heap V N → ℕ → ℕ → Heap V N
with_dict_room heap n pairs =
    with_object (with_used heap (dict_growth heap n pairs)) n (DictObject (pairs_at heap n) (grown_room heap n pairs))

-- a list that holds these items from now on
abbrev pub with_items : {V N : Type 0} → Heap V N → ℕ → List V → Heap V N
with_items heap n items =
    with_object (with_used heap (list_growth heap n (length items))) n (ListObject items (grown_room heap n (length items)))

-- a dict that holds these pairs from now on
abbrev pub with_pairs : {V N : Type 0} → Heap V N → ℕ → List (V × V) → Heap V N
with_pairs heap n pairs =
    with_object (with_used heap (dict_growth heap n (length pairs))) n (DictObject pairs (grown_room heap n (length pairs)))
