-- The operands of a call, as the running call's slots have them.
use Rattle.std.specs.Prelude.{ℕ, ◌+◌, ◌*◌, ◌/◌, ◌%◌, List, [], ◌∷◌, map, take, drop, reverse}
use Rattle.frame_moves.specs.arena_heap.declared.value.Value.{Value}
use Rattle.frame_moves.specs.arena_heap.declared.value.Value.TheVariants as values
use Rattle.frame_moves.specs.vm_frames.declared.slot.Slot.{Slot}
use Rattle.frame_moves.specs.vm_frames.declared.slot.Slot.TheVariants as slots
use Rattle.frame_moves.specs.vm_frames.Calls.{Call}

-- positional and keyword arguments, and how many slots may hold them
pub record Given : Type 0 where
  pub args : List Value
  pub keys : List (Value × Value)
  pub room : ℕ

-- the slots of the running call. Where none runs there are none
abbrev pub running_slots : List Call → List Slot
running_slots [] = []
running_slots (c ∷ cs) = c.slots

-- the value that a slot holds as a value, or None
abbrev pub value_in : Slot → Value
value_in (slots.Value v) = v
value_in slots.Null = values.None
value_in (slots.Object o) = values.None
value_in (slots.Iter over at part) = values.None
value_in (slots.Return v) = values.None
value_in (slots.Jump target entries iterator) = values.None

-- the values of the first `count` slots, the lowest first
abbrev pub values_in : (count : ℕ) → List Slot → List Value
values_in count st = reverse (map value_in (take count st))

-- names and values in turn
abbrev pub paired : List Value → List (Value × Value)
paired [] = []
paired (name ∷ []) = []
paired (name ∷ v ∷ vs) = (name, v) ∷ paired vs

-- the low eight bits of an instruction's number count the positional arguments, and the others the keyword arguments above
-- them, of which each has a name and a value
abbrev pub args_count : ℕ → ℕ
args_count number = number % 256

-- how many slots the keyword arguments take
abbrev pub keys_count : ℕ → ℕ
keys_count number = 2 * (number / 256)

-- how many slots all arguments take
abbrev pub operands_count : ℕ → ℕ
operands_count number = keys_count number + args_count number

-- the positional arguments, the first one first
abbrev pub args_in : ℕ → List Slot → List Value
args_in number st = values_in (args_count number) (drop (keys_count number) st)

-- the keyword arguments, which lie above the positional ones
abbrev pub keys_in : ℕ → List Slot → List (Value × Value)
keys_in number st = paired (values_in (keys_count number) st)
