-- The constants of modules: their numbers in preorder, and what is told of them.
use Rattle.std.specs.Prelude.{ℕ, zero, suc, ◌+◌, List, [], ◌∷◌, length, Option, Some, None, true, false, slice_get, option_and_then}
use Rattle.std.specs.List.{flat_map}
use Rattle.mpy_base.specs.declared.limits.TheConstants.{MAX_DEPTH}
use Rattle.arena_heap.specs.declared.value.Value.{Value}
use Rattle.arena_heap.specs.declared.value.Value.TheVariants as values
use Rattle.arena_heap.specs.declared.value.StrNo.{StrNo}
use Rattle.arena_heap.specs.declared.value.StrNo.TheVariants as strs
use Rattle.arena_heap.specs.declared.value.ConstNo.{ConstNo}
use Rattle.mpy_tree.specs.declared.module.Constant.{Constant, out-Constant}
use Rattle.mpy_tree.specs.declared.module.Constant.TheOpen.{Constant-F}
use Rattle.mpy_tree.specs.Raw.{Module}
use Rattle.bc_library.specs.Shelf.{Shelf, module_at}
use Rattle.bc_library.specs.Texts.{text_numbered}

-- the items of a tuple
abbrev pub items_in : Constant-F Constant → Option (List Constant)
items_in (Constant-F.Tuple items) = Some items
items_in object = None

-- the bytes of a text
abbrev pub bytes_in : Constant-F Constant → Option (List ℕ)
bytes_in (Constant-F.Str text) = Some text
bytes_in object = None

-- an object, then the items of a tuple, each with what is in it
abbrev pub preorder_by : (Constant → List Constant) → Constant → Option (List Constant) → List Constant
preorder_by inner object None = object ∷ []
preorder_by inner object (Some items) = object ∷ flat_map inner items

-- the same to that number of levels of tuples
unfoldable pub preorder_to : ℕ → Constant → List Constant
preorder_to zero object = object ∷ []
preorder_to (suc levels) object = preorder_by (preorder_to levels) object (items_in (out-Constant object))

-- tuples nest no deeper in a file
abbrev pub preorder : Constant → List Constant
preorder object = preorder_to MAX_DEPTH object

-- the constants of a module by their numbers
abbrev pub constants_of : Module → List Constant
constants_of m = flat_map preorder m.objects

-- the value of a tuple that has this number, with these items: one without items is the empty tuple
abbrev pub tuple_value : ConstNo → List Constant → Value
tuple_value c [] = values.Empty
tuple_value c (item ∷ items) = values.Fixed c

-- the value of the object that has this number
abbrev pub value_by : ConstNo → Constant-F Constant → Value
value_by c Constant-F.None = values.None
value_by c Constant-F.False = values.Bool false
value_by c Constant-F.True = values.Bool true
value_by c (Constant-F.Str text) = values.Str (strs.Object c)
value_by c (Constant-F.Int n) = values.Int n
value_by c (Constant-F.Tuple items) = tuple_value c items

-- the number of the constant `n` of the module `i`
abbrev pub numbered : ℕ → ℕ → ConstNo
numbered i n = record { «module» = i; object = n }

-- the values of objects one after another, of which the first has the number n in the module i
abbrev pub values_from : ℕ → ℕ → List Constant → List Value
values_from i n [] = []
values_from i n (object ∷ objects) =
    value_by (numbered i n) (out-Constant object) ∷ values_from i (n + length (preorder object)) objects

-- the constant of this number
abbrev pub constant_at : Shelf → ConstNo → Option Constant
constant_at shelf c = option_and_then (λ m. slice_get (constants_of m) c.object) (module_at shelf c.«module»)

-- the items of a constant tuple: the first has the next number
abbrev pub items_at : Shelf → ConstNo → Option (List Value)
items_at shelf c =
    option_and_then
    (λ object. option_and_then (λ items. Some (values_from c.«module» (c.object + 1) items)) (items_in (out-Constant object)))
    (constant_at shelf c)

-- the bytes of a text
abbrev pub text_at : Shelf → StrNo → Option (List ℕ)
text_at shelf (strs.Pool n) = text_numbered shelf.pool n
text_at shelf (strs.Object c) = option_and_then (λ object. bytes_in (out-Constant object)) (constant_at shelf c)

-- the value of an object of a module's table
abbrev pub object_value : Shelf → ℕ → ℕ → Option Value
object_value shelf i n = option_and_then (λ m. slice_get (values_from i 0 m.objects) n) (module_at shelf i)
