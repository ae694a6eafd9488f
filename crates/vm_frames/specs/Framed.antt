-- A frame as its fields have it.
use Rattle.std.specs.Prelude.{ℕ, ◌^◌, ◌<◌, ◌≤◌, take, reverse, length, All}
use Rattle.std.specs.Vec.{vec_capacity}
use Rattle.vm_frames.specs.Held.{Held}
use Rattle.vm_frames.specs.declared.slot.Entry.{Entry}
use Rattle.vm_frames.specs.declared.frame.Frame.TheInside.{Inside}

-- what the fields hold
abbrev pub held_of : Inside → Held
held_of f = record {
  call = record {
    module_number = f.module_number;
    code = f.code;
    at = f.at;
    names = f.names;
    role = f.role;
    locals = f.locals.items;
    slots = reverse (take f.height f.slots.items);
    entries = reverse f.entries.items;
  };
  slot_room = f.slot_room;
  entry_room = f.entry_room;
}

-- a handler begins with room for a slot
abbrev pub IsLow : ℕ → Entry → Type 0
IsLow room e = e.height < room

-- what the fields keep: all fits, and the memory for it is taken
pub record IsFrame (f : Inside) : Type 0 where
  pub locals_fit : length f.locals.items ≤ f.slot_room
  pub slots_fit : length f.slots.items ≤ f.slot_room
  pub slots_there : f.height ≤ length f.slots.items
  pub entries_fit : length f.entries.items ≤ f.entry_room
  pub locals_taken : f.slot_room ≤ vec_capacity f.locals
  pub slots_taken : f.slot_room ≤ vec_capacity f.slots
  pub entries_taken : f.entry_room ≤ vec_capacity f.entries
  pub few : f.slot_room < 2 ^ 32
  pub low : All (IsLow f.slot_room) f.entries.items
