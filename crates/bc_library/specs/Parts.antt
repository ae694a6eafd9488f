-- What is kept of constants.
use Rattle.std.specs.Prelude.{ℕ, ◌+◌, List, [], ◌∷◌, Option, Some, None}
use Rattle.arena_heap.specs.declared.value.Value.{Value}
use Rattle.mpy_tree.specs.declared.module.Constant.{Constant, out-Constant}
use Rattle.mpy_tree.specs.declared.module.Constant.TheOpen.{Constant-F}
use Rattle.bc_library.specs.declared.parts.Part.{Part}
use Rattle.bc_library.specs.declared.parts.Part.TheVariants as parts
use Rattle.bc_library.specs.Constants.{values_from}

-- what is kept of an object by itself, without the items of a tuple
abbrev pub own_part_by : Constant-F Constant → Part
own_part_by (Constant-F.Str text) = parts.Str text
own_part_by object = parts.Plain

-- what is kept of a constant that has the number n in the module i
abbrev pub part_by : ℕ → ℕ → Constant-F Constant → Part
part_by i n (Constant-F.Str text) = parts.Str text
part_by i n (Constant-F.Tuple items) = parts.Tuple (values_from i (n + 1) items)
part_by i n object = parts.Plain

-- and of constants one after another from there on
abbrev pub parts_from : ℕ → ℕ → List Constant → List Part
parts_from i n [] = []
parts_from i n (object ∷ objects) = part_by i n (out-Constant object) ∷ parts_from i (n + 1) objects

-- the bytes of a str, and the values of a tuple's items
abbrev pub bytes_of : Part → Option (List ℕ)
bytes_of (parts.Str text) = Some text
bytes_of part = None

-- the values of a tuple's items
abbrev pub items_of : Part → Option (List Value)
items_of (parts.Tuple values) = Some values
items_of part = None
