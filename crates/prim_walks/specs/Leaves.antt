-- The texts of an arena's values that have no others in them.
use Rattle.std.specs.Prelude.{◌≡◌, ℕ, zero, suc, Bool, List, [], ◌++◌, Option, Some, codes}
use Rattle.std.specs.Fmt.{signed_decimal}
use Rattle.py_primitives.specs.mpy_base.declared.kind.Kind.{Kind}
use Rattle.arena_objects.specs.arena_heap.declared.value.Value.{Value}
use Rattle.arena_objects.specs.arena_heap.declared.value.Value.TheVariants as values
use Rattle.arena_objects.specs.arena_heap.declared.value.StrNo.{StrNo}
use Rattle.arena_objects.specs.arena_heap.declared.value.StrNo.TheVariants as strs
use Rattle.py_primitives.specs.mpy_base.World.{FunctionObject, ExceptionObject, RangeObject, ModuleObject, Heap, object, text_at}
use Rattle.arena_objects.specs.arena_heap.Values.{ArenaObject}
use Rattle.arena_objects.specs.Iterables.{or_nothing}
use Rattle.py_primitives.specs.Texts.{truth_text, builtin_text, range_text, str_text}

-- no list, tuple, dict or exception
abbrev pub IsLeaf : Value → Type 0
IsLeaf (values.Fixed c) = ⊥
IsLeaf values.Empty = ⊥
IsLeaf (values.List l) = ⊥
IsLeaf (values.Dict d) = ⊥
IsLeaf (values.Tuple t) = ⊥
IsLeaf (values.Exc e) = ⊥
IsLeaf _ = Unit {0}

-- a function, a range or a module
abbrev pub part_text : (StrNo → Option (List ℕ)) → Option ArenaObject → List ℕ
part_text texts (Some (FunctionObject name module_name code names defaults)) = codes "<function " ++ or_nothing (texts (strs.Pool name)) ++ codes ">"
part_text texts (Some (RangeObject start stop step)) = range_text start stop step
part_text texts (Some (ModuleObject name names)) = codes "<module '" ++ or_nothing (texts (strs.Pool name)) ++ codes "'>"
part_text texts _ = []

-- the text of a value without items; a str stands in quotes unless `raw` says so
abbrev pub leaf_text : (StrNo → Option (List ℕ)) → Heap Value ℕ → Bool → Value → List ℕ
leaf_text texts heap raw values.None = codes "None"
leaf_text texts heap raw (values.Bool b) = truth_text b
leaf_text texts heap raw (values.Int z) = signed_decimal z
leaf_text texts heap raw (values.Str s) = str_text raw (or_nothing (texts s))
leaf_text texts heap raw (values.Text t) = str_text raw (text_at heap t.cell)
leaf_text texts heap raw (values.Fun f) = part_text texts (object heap.objects f.cell)
leaf_text texts heap raw (values.Method m) = codes "<bound_method>"
leaf_text texts heap raw (values.Range r) = part_text texts (object heap.objects r.cell)
leaf_text texts heap raw (values.Module m) = part_text texts (object heap.objects m.cell)
leaf_text texts heap raw (values.Built b) = builtin_text b
leaf_text texts heap raw _ = []

-- what stands in front of an item, by how many there are in front of it
abbrev pub separator : ℕ → List ℕ
separator zero = []
separator (suc at) = codes ", "

-- what stands behind the items of a tuple
abbrev pub end_of_tuple : ℕ → List ℕ
end_of_tuple (suc zero) = codes ",)"
end_of_tuple _ = codes ")"

-- an exception of this kind with these arguments
abbrev pub IsRaised : Option ArenaObject → Kind → Value → Type 0
IsRaised (Some (ExceptionObject kind' args' file line name)) kind args = (kind' ≡ kind) × (args' ≡ args)
IsRaised _ kind args = ⊥
