-- What operators see of two operands.
use Rattle.std.specs.Prelude.{◌≡◌, ℕ, List, Option, map}
use Rattle.prim_faults.specs.mpy_base.World.{Heap, Objects}
use Rattle.prim_faults.specs.mpy_base.Val.{Val}
use Rattle.prim_faults.specs.arena_heap.declared.value.Value.{Value}
use Rattle.prim_faults.specs.arena_heap.declared.value.StrNo.{StrNo}
use Rattle.prim_faults.specs.arena_heap.declared.value.ConstNo.{ConstNo}
use Rattle.prim_faults.specs.arena_heap.Values.{IsStr, IsTuple, IsList}
use Rattle.prim_faults.specs.py_values.Shown.{Shown, Number, Text, Tuple, Items, shown}
use Rattle.prim_faults.specs.py_values.Names.{type_name}
use Rattle.prim_faults.specs.py_primitives.Faults.{Unsupported}
use Rattle.prim_faults.specs.py_primitives.Outcome.{Outcome, making_text, making_tuple, making_list}
use Rattle.prim_faults.specs.py_primitives.Operators as plain_operators
use Rattle.prim_faults.specs.prim_walks.Plain.{plain, plain_heap}
use Rattle.prim_faults.specs.declared.fault.Fault.{Fault}
use Rattle.prim_faults.specs.Faults.{plain_fault, IsKnownFault}
use Rattle.prim_operators.specs.Sources.{source_bytes, source_items, AreStrs, AreKnown}
use Rattle.prim_operators.specs.declared.sources.Source.{Source}
use Rattle.prim_operators.specs.declared.operands.Operands.{Operands}
use Rattle.prim_operators.specs.declared.operands.Operands.TheVariants as pairs
use Rattle.prim_operators.specs.declared.operands.Operand.{Operand}
use Rattle.prim_operators.specs.declared.operands.Operand.TheVariants as operands
use Rattle.prim_operators.specs.declared.operands.Shape.{Shape}
use Rattle.prim_operators.specs.declared.operands.Shape.TheVariants as shapes

-- a str, a tuple or a list of that shape
abbrev pub HasShape : Value → Shape → Type 0
HasShape v shapes.Text = IsStr v
HasShape v shapes.Tuple = IsTuple v
HasShape v shapes.List = IsList v

-- what no operator over two numbers or sequences takes
abbrev pub IsUnfit : Shown → Type 0
IsUnfit (Number z) = ⊥
IsUnfit (Text bytes) = ⊥
IsUnfit (Tuple items) = ⊥
IsUnfit (Items items) = ⊥
IsUnfit _ = Unit {0}

-- a text, a tuple or a list
abbrev pub ShowsShape : Shown → Shape → Type 0
ShowsShape (Text bytes) shapes.Text = Unit {0}
ShowsShape (Tuple items) shapes.Tuple = Unit {0}
ShowsShape (Items items) shapes.List = Unit {0}
ShowsShape _ _ = ⊥

-- what an operand is to an operator: a number, a str, tuple or list, or something else
abbrev pub IsOperand : Heap Value ℕ → Value → Operand → Type 0
IsOperand heap v (operands.Number n) =
    (texts : StrNo → Option (List ℕ)) (tuples : ConstNo → Option (List Value)) → shown (plain_heap texts tuples heap) (plain texts tuples v) ≡ Number n
IsOperand heap v (operands.Shaped shape) =
    HasShape v shape × ((texts : StrNo → Option (List ℕ)) (tuples : ConstNo → Option (List Value))
    → ShowsShape (shown (plain_heap texts tuples heap) (plain texts tuples v)) shape)
IsOperand heap v operands.Other =
    (texts : StrNo → Option (List ℕ)) (tuples : ConstNo → Option (List Value)) → IsUnfit (shown (plain_heap texts tuples heap) (plain texts tuples v))

-- two strs, two tuples or two lists
abbrev pub AreAlike : Shown → Shown → Type 0
AreAlike (Text bytes) (Text others) = Unit {0}
AreAlike (Tuple items) (Tuple others) = Unit {0}
AreAlike (Items items) (Items others) = Unit {0}
AreAlike _ _ = ⊥

-- operands that are joined, of which one is repeated, or that no such operator takes
abbrev pub AreUnfit : Shown → Shown → Type 0
AreUnfit (Number x) (Number y) = ⊥
AreUnfit (Text bytes) (Text others) = ⊥
AreUnfit (Tuple items) (Tuple others) = ⊥
AreUnfit (Items items) (Items others) = ⊥
AreUnfit (Number x) (Text others) = ⊥
AreUnfit (Number x) (Tuple others) = ⊥
AreUnfit (Number x) (Items others) = ⊥
AreUnfit (Text bytes) (Number y) = ⊥
AreUnfit (Tuple items) (Number y) = ⊥
AreUnfit (Items items) (Number y) = ⊥
AreUnfit _ _ = Unit {0}

-- what two operands are to an operator together
abbrev pub IsOperands : Heap Value ℕ → Value → Value → Operands → Type 0
IsOperands heap left right (pairs.Numbers x y) = IsOperand heap left (operands.Number x) × IsOperand heap right (operands.Number y)
IsOperands heap left right (pairs.Alike shape) = IsOperand heap left (operands.Shaped shape) × IsOperand heap right (operands.Shaped shape)
IsOperands heap left right (pairs.Left shape n) = IsOperand heap left (operands.Shaped shape) × IsOperand heap right (operands.Number n)
IsOperands heap left right (pairs.Right shape n) = IsOperand heap left (operands.Number n) × IsOperand heap right (operands.Shaped shape)
IsOperands heap left right pairs.Unfit =
    (texts : StrNo → Option (List ℕ)) (tuples : ConstNo → Option (List Value))
    → AreUnfit (shown (plain_heap texts tuples heap) (plain texts tuples left))
    (shown (plain_heap texts tuples heap) (plain texts tuples right))

module _ (texts : StrNo → Option (List ℕ)) (tuples : ConstNo → Option (List Value)) (heap : Heap Value ℕ) where
  -- a new str, tuple or list of these
  abbrev pub joined : Shape → Source → Outcome Val
  joined shapes.Text source = making_text (plain_heap texts tuples heap) (source_bytes texts heap source)
  joined shapes.Tuple source = making_tuple (plain_heap texts tuples heap) (map (plain texts tuples) (source_items tuples heap source))
  joined shapes.List source = making_list (plain_heap texts tuples heap) (map (plain texts tuples) (source_items tuples heap source))

-- what is joined or repeated is known, and for a new str each part is one
abbrev pub AreShaped : (StrNo → Option (List ℕ)) → (ConstNo → Option (List Value)) → Objects Value ℕ → Shape → Source → Type 0
AreShaped texts tuples objects shapes.Text source = AreStrs texts tuples objects source
AreShaped texts tuples objects _ source = AreKnown texts tuples objects source

-- the fault of an operator that doesn't take these
abbrev pub IsUnsupported : Heap Value ℕ → plain_operators.Operator → Value → Value → Fault → Type 0
IsUnsupported heap op left right fault =
    (texts : StrNo → Option (List ℕ)) (tuples : ConstNo → Option (List Value))
    → IsKnownFault texts tuples heap.objects fault
    × (plain_fault texts tuples heap fault
    ≡ Unsupported (plain_operators.operator_method op) (type_name (plain_heap texts tuples heap) (plain texts tuples left))
    (type_name (plain_heap texts tuples heap) (plain texts tuples right)))
