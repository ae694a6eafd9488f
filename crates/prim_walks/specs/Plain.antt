-- The values and the heap of an arena as the meaning of programs has them: names and constants by what they are.
use Rattle.std.specs.Prelude.{ℕ, zero, suc, List, [], ◌∷◌, map, Option, Some, None}
use Rattle.arena_objects.specs.arena_heap.declared.value.Value.{Value}
use Rattle.arena_objects.specs.arena_heap.declared.value.Value.TheVariants as values
use Rattle.arena_objects.specs.arena_heap.declared.value.StrNo.{StrNo}
use Rattle.arena_objects.specs.arena_heap.declared.value.StrNo.TheVariants as strs
use Rattle.arena_objects.specs.arena_heap.declared.value.ConstNo.{ConstNo}
use Rattle.py_primitives.specs.mpy_base.World.{Object, ListObject, TupleObject, TextObject, DictObject, FunctionObject}
use Rattle.py_primitives.specs.mpy_base.World.{ExceptionObject, MethodObject, RangeObject, ModuleObject, Heap}
use Rattle.py_primitives.specs.mpy_base.Val.{Val, Nil, Truth, Int, Str, Fixed, Empty, Built, At, Vals, Only, Then}
use Rattle.arena_objects.specs.arena_heap.Values.{ArenaObject}
use Rattle.arena_objects.specs.Iterables.{or_nothing}
use Rattle.py_primitives.specs.py_values.Shown.{PlainHeap}

-- one value or more, as the items of a constant tuple
abbrev pub vals_from : Val → List Val → Vals
vals_from v [] = Only v
vals_from v (w ∷ vs) = Then v (vals_from w vs)

-- a constant tuple of these items
abbrev pub fixed_of : List Val → Val
fixed_of [] = Empty
fixed_of (v ∷ vs) = Fixed (vals_from v vs)

-- a value, where constant tuples are these
abbrev pub plain_by : (StrNo → Option (List ℕ)) → (ConstNo → Val) → Value → Val
plain_by texts fixed values.None = Nil
plain_by texts fixed (values.Bool b) = Truth b
plain_by texts fixed (values.Int z) = Int z
plain_by texts fixed (values.Str s) = Str (or_nothing (texts s))
plain_by texts fixed (values.Fixed c) = fixed c
plain_by texts fixed values.Empty = Empty
plain_by texts fixed (values.List l) = At l.cell
plain_by texts fixed (values.Dict d) = At d.cell
plain_by texts fixed (values.Tuple t) = At t.cell
plain_by texts fixed (values.Text t) = At t.cell
plain_by texts fixed (values.Fun f) = At f.cell
plain_by texts fixed (values.Exc e) = At e.cell
plain_by texts fixed (values.Method m) = At m.cell
plain_by texts fixed (values.Range r) = At r.cell
plain_by texts fixed (values.Module m) = At m.cell
plain_by texts fixed (values.Built b) = Built b

module _ (texts : StrNo → Option (List ℕ)) (tuples : ConstNo → Option (List Value)) where
  -- a constant tuple with its tuples to this depth
  unfoldable pub fixed_within : ℕ → ConstNo → Val
  fixed_within zero c = Empty
  fixed_within (suc depth) c = fixed_of (map (plain_by texts (fixed_within depth)) (or_nothing (tuples c)))

  -- constant tuples nest at most 32 deep
  abbrev pub plain : Value → Val
  plain v = plain_by texts (fixed_within 32) v

  -- the key and the value of a dict's pair
  abbrev pub plain_pair : Value × Value → Val × Val
  plain_pair pair = (plain (pair.0), plain (pair.1))

  -- the text that has this number
  abbrev pub plain_name : ℕ → List ℕ
  plain_name n = or_nothing (texts (strs.Pool n))

  -- an object as the meaning has it
  abbrev pub plain_object : Option ArenaObject → Option (Object Val (List ℕ))
  plain_object None = None
  plain_object (Some (ListObject items room)) = Some (ListObject (map plain items) room)
  plain_object (Some (TupleObject items)) = Some (TupleObject (map plain items))
  plain_object (Some (TextObject bytes)) = Some (TextObject bytes)
  plain_object (Some (DictObject pairs room)) = Some (DictObject (map plain_pair pairs) room)
  plain_object (Some (FunctionObject name module_name code names defaults)) =
      Some (FunctionObject (plain_name name) (plain_name module_name) code names (plain defaults))
  plain_object (Some (ExceptionObject kind args file line name)) =
      Some (ExceptionObject kind (plain args) (plain_name file) line (plain_name name))
  plain_object (Some (MethodObject v method)) = Some (MethodObject (plain v) method)
  plain_object (Some (RangeObject start stop step)) = Some (RangeObject start stop step)
  plain_object (Some (ModuleObject name names)) = Some (ModuleObject (plain_name name) names)

  -- the heap as the meaning has it
  abbrev pub plain_heap : Heap Value ℕ → PlainHeap
  plain_heap heap =
      record { objects = map plain_object heap.objects; bytes = heap.bytes; cell_size = heap.cell_size; byte_size = heap.byte_size }
