-- Slots and operands whose values are known.
use Rattle.std.specs.Prelude.{ℕ, List, Option, IfSome, All}
use Rattle.mpy_base.specs.World.{Objects}
use Rattle.frame_moves.specs.arena_heap.declared.value.Value.{Value}
use Rattle.frame_moves.specs.arena_heap.declared.value.StrNo.{StrNo}
use Rattle.frame_moves.specs.arena_heap.declared.value.ConstNo.{ConstNo}
use Rattle.frame_moves.specs.prim_faults.Faults.{IsKnown}
use Rattle.frame_moves.specs.vm_frames.declared.slot.Slot.{Slot}
use Rattle.frame_moves.specs.vm_frames.declared.slot.Slot.TheVariants as slots
use Rattle.frame_calls.specs.Operands.{Given}

module _ (texts : StrNo → Option (List ℕ)) (tuples : ConstNo → Option (List Value)) (objects : Objects Value ℕ) where
  -- the values of a slot are known
  abbrev pub IsKnownSlot : Slot → Type 0
  IsKnownSlot (slots.Value v) = IsKnown texts tuples objects v
  IsKnownSlot slots.Null = Unit {0}
  IsKnownSlot (slots.Object o) = IfSome o (IsKnown texts tuples objects)
  IsKnownSlot (slots.Iter over at part) = IsKnown texts tuples objects over
  IsKnownSlot (slots.Return v) = IsKnown texts tuples objects v
  IsKnownSlot (slots.Jump target entries iterator) = Unit {0}

  -- the arguments are known
  pub record AreKnown (given : Given) : Type 0 where
    pub args : All (IsKnown texts tuples objects) given.args
    pub keys : All (λ pair. IsKnown texts tuples objects pair.0 × IsKnown texts tuples objects pair.1) given.keys
