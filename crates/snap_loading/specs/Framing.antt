-- Frames of a snapshot that have a place in a machine.
use Rattle.std.specs.Prelude.{◌≡◌, ℕ, ◌+◌, ◌<◌, ◌≤◌, List, length, All}
use Rattle.std.specs.List.{sum_by}
use Rattle.bc_library.specs.Greatest.{IsGreatestIn, ShelfHas}
use Rattle.bc_library.specs.Shelf.{Shelf}
use Rattle.vm_frames.specs.Calls.{Calls}
use Rattle.snap_grammar.specs.declared.parts.EntryPart.{EntryPart}
use Rattle.snap_grammar.specs.declared.parts.FramePart.{FramePart}
use Rattle.snap_grammar.specs.declared.parts.SlotPart.{SlotPart}
use Rattle.snap_grammar.specs.declared.parts.SlotPart.TheVariants as slots

-- at most three slots of an iterator are left, and fewer than 256 entries are left by a jump
abbrev pub FitsSlot : SlotPart → Type 0
FitsSlot (slots.Left count over at) = count < 256
FitsSlot (slots.Jump target entries iterator) = entries < 256
FitsSlot _ = Unit {0}

-- how many slots of a machine a part is
abbrev pub count_of : SlotPart → ℕ
count_of (slots.Iterator over at) = 4
count_of (slots.Left count over at) = count
count_of _ = 1

-- how many slots these parts are
abbrev pub slots_in : List SlotPart → ℕ
slots_in parts = sum_by count_of parts

-- an entry of fewer slots than these
abbrev pub IsLow : ℕ → EntryPart → Type 0
IsLow slot_room e = e.height < slot_room

-- what is in the frame fits into a call with these rooms, and its slots are no more than `count`
pub record HasPlace (slot_room entry_room count : ℕ) (f : FramePart) : Type 0 where
  pub locals : length f.locals ≤ slot_room
  pub slots : slots_in f.slots ≤ slot_room
  pub among : slots_in f.slots ≤ count
  pub fit : All FitsSlot f.slots
  pub entries : length f.entries ≤ entry_room
  pub low : All (IsLow slot_room) f.entries

-- a call has a slot more, and as many entries, as a code of the library takes at most
pub record HasRoomFor (shelf : Shelf) (s : Calls) : Type 0 where
  pub slots : ℕ
  pub greatest : IsGreatestIn (ShelfHas shelf) slots s.entry_room
  pub slot_room : s.slot_room ≡ slots + 1
