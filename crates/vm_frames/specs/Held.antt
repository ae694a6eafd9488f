-- A frame and its room.
use Rattle.std.specs.Prelude.{◌≡◌, ℕ}
use Rattle.vm_frames.specs.Calls.{Call}

-- what a frame holds, and what fits into it
pub record Held : Type 0 where
  pub call : Call
  pub slot_room : ℕ
  pub entry_room : ℕ

-- the frame with another call in its room
abbrev pub with_call : Held → Call → Held
with_call f c = record f { call = c }

-- a frame has this room
pub record HasRoom (slots entries : ℕ) (f : Held) : Type 0 where
  pub slots_are : f.slot_room ≡ slots
  pub entries_are : f.entry_room ≡ entries
