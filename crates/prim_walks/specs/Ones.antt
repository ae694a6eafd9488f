-- Constant tuples that are one, item by item.
use Rattle.std.specs.Prelude.{ℕ, ◌-◌, ◌^◌, List, [], ◌∷◌, Bool, true, false, ◌&&◌}
use Rattle.arena_objects.specs.arena_heap.declared.value.Value.{Value}
use Rattle.arena_objects.specs.arena_heap.declared.value.Value.TheVariants as values
use Rattle.py_primitives.specs.mpy_base.Val.{Val}
use Rattle.py_primitives.specs.py_values.Shown.{PlainHeap}
use Rattle.py_primitives.specs.Operators.{is_one}

-- as many items, which are one pair by pair
abbrev pub all_one : PlainHeap → List Val → List Val → Bool
all_one heap [] [] = true
all_one heap (x ∷ xs) (y ∷ ys) = is_one heap x y && all_one heap xs ys
all_one heap _ _ = false

-- a constant tuple
abbrev pub IsConstant : Value → Type 0
IsConstant (values.Fixed c) = Unit {0}
IsConstant values.Empty = Unit {0}
IsConstant _ = ⊥

-- how many constants may stand behind one in its module
abbrev pub height : Value → ℕ
height (values.Fixed c) = 2 ^ 32 - c.object
height _ = 0
