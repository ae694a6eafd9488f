-- Calls as frames of the machine, whose places are positions and whose values are plain.
use Rattle.std.specs.Prelude.{◌≡◌, ℕ, List, map, Option, Some, None, nat_le}
use Rattle.std.specs.Option.{option_map}
use Rattle.mpy_base.specs.Val.{Val, At, PlainWorld}
use Rattle.arena_heap.specs.declared.value.Value.{Value}
use Rattle.arena_heap.specs.declared.value.Value.TheVariants as values
use Rattle.arena_heap.specs.declared.value.ExcNo.{ExcNo}
use Rattle.vm_frames.specs.declared.slot.Slot.{Slot}
use Rattle.vm_frames.specs.declared.slot.Slot.TheVariants as slots
use Rattle.vm_frames.specs.declared.slot.Entry.{Entry}
use Rattle.vm_frames.specs.declared.slot.Role.{Role}
use Rattle.vm_frames.specs.declared.slot.Role.TheVariants as roles
use Rattle.vm_frames.specs.Calls.{Call}
use Rattle.vm_frames.specs.Moves.{Moved}
use Rattle.bc_labels.specs.Positions.{position_in}
use Rattle.bc_machine.specs.Library.{Name}
use Rattle.bc_machine.specs.State as states
use Rattle.bc_machine.specs.State.{State, Running}

-- what the numbers in a call stand for
pub record View : Type 0 where
  pub plain : Value → Val
  -- the name of a module, and the offsets that the instructions of a code of it start at
  pub module_name : ℕ → Name
  pub starts : ℕ → ℕ → List ℕ
  pub exceptions : (x : ExcNo) → plain (values.Exc x) ≡ At x.cell

module _ (view : View) where
  -- a slot of a frame whose instructions start at these offsets
  abbrev pub slot_of : List ℕ → Slot → states.Slot
  slot_of starts (slots.Value v) = states.Value (view.plain v)
  slot_of starts slots.Null = states.Null
  slot_of starts (slots.Object o) = states.Object (option_map view.plain o)
  slot_of starts (slots.Iter over at part) = states.Iter (view.plain over) at part
  slot_of starts (slots.Return v) = states.KeptReturn (view.plain v)
  slot_of starts (slots.Jump target count it) = states.KeptJump (position_in starts target) count it

  -- a role of a frame; an import has the name of its module
  abbrev pub role_of : Name → Role → states.Role
  role_of name roles.Main = states.Main
  role_of name roles.Call = states.Called
  role_of name (roles.Import m) = states.Imported name m.cell

  -- the slots
  abbrev pub slots_of : List ℕ → List Slot → List states.Slot
  slots_of starts st = map (slot_of starts) st

  -- the locals
  abbrev pub locals_of : List (Option Value) → List (Option Val)
  locals_of vs = map (option_map view.plain) vs

-- no mark is stored: an entry is active by the position
abbrev pub entry_of : List ℕ → ℕ → Entry → states.Entry
entry_of starts position e = record {
  handler = position_in starts e.handler;
  is_finally = e.is_finally;
  height = e.height;
  active = nat_le (position_in starts e.handler) position;
  kept = option_map (λ (x : ExcNo). x.cell) e.kept;
}

-- the entries of a frame that stands at a position
abbrev pub entries_of : List ℕ → ℕ → List Entry → List states.Entry
entries_of starts position es = map (entry_of starts position) es

module _ (view : View) where
  -- the offsets that the instructions of a call's code start at
  abbrev pub starts_of : Call → List ℕ
  starts_of c = view.starts c.module_number c.code

  -- the position of the instruction where a call stands
  abbrev pub position_of : Call → ℕ
  position_of c = position_in (starts_of c) c.at

  -- the frame that a call is
  abbrev pub frame_of : Call → states.Frame
  frame_of c = record {
    module_name = view.module_name c.module_number;
    code = c.code;
    position = position_of c;
    locals = locals_of view c.locals;
    slots = slots_of view (starts_of c) c.slots;
    entries = entries_of (starts_of c) (position_of c) c.entries;
    names = c.names.cell;
    role = role_of view (view.module_name c.module_number) c.role;
  }

  -- on at the handler that was entered, or else out
  abbrev pub entered_or : Option ℕ → State → State → State
  entered_or (Some handler) inside outside = inside
  entered_or None inside outside = outside

  -- the state behind a move
  abbrev pub behind : Moved → List states.Frame → PlainWorld → State → State
  behind moved frames w outside = entered_or moved.handler (Running 0 (frame_of moved.call) frames w) outside
