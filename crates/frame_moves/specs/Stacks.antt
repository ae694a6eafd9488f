-- Slots as the instructions leave them that move slots alone, the topmost first.
use Rattle.std.specs.Prelude.{ℕ, List, [], ◌∷◌, length, Bool, None}
use Rattle.vm_frames.specs.declared.slot.Slot.{Slot}
use Rattle.vm_frames.specs.declared.slot.Entry.{Entry}
use Rattle.vm_frames.specs.Calls.{Call}

-- on at the offset with these slots
abbrev pub gone : ℕ → List Slot → Call → Call
gone offset st c = record c { at = offset; slots = st }

-- the top slot twice
abbrev pub doubled : List Slot → List Slot
doubled (a ∷ st) = a ∷ a ∷ st
doubled [] = []

-- the two topmost slots twice
abbrev pub doubled_two : List Slot → List Slot
doubled_two (a ∷ b ∷ st) = a ∷ b ∷ a ∷ b ∷ st
doubled_two st = st

-- the top slot below the second one
abbrev pub turned_two : List Slot → List Slot
turned_two (a ∷ b ∷ st) = b ∷ a ∷ st
turned_two st = st

-- the top slot below the third one
abbrev pub turned_three : List Slot → List Slot
turned_three (a ∷ b ∷ c ∷ st) = b ∷ c ∷ a ∷ st
turned_three st = st

-- an entry over these slots, which no exception has entered
abbrev pub entry_over : List Slot → (handler : ℕ) → (is_finally : Bool) → Entry
entry_over st handler is_finally = record { handler = handler; is_finally = is_finally; height = length st; kept = None }

-- on at the offset, with an entry more over all slots
abbrev pub set_up : (handler : ℕ) → (is_finally : Bool) → (offset : ℕ) → Call → Call
set_up handler is_finally offset c = record c { at = offset; entries = entry_over c.slots handler is_finally ∷ c.entries }
