-- Attributes of an arena's values.
use Rattle.std.specs.Prelude.{◌≡◌, ℕ, List, Option, bytes_eq, codes, if◌then◌else◌}
use Rattle.prim_faults.specs.mpy_base.declared.builtin.Builtin.{Builtin}
use Rattle.prim_faults.specs.mpy_base.World.{Objects}
use Rattle.prim_faults.specs.arena_heap.declared.value.Value.{Value}
use Rattle.prim_faults.specs.arena_heap.declared.value.Value.TheVariants as values
use Rattle.prim_faults.specs.arena_heap.declared.value.StrNo.{StrNo}
use Rattle.prim_faults.specs.arena_heap.declared.value.ConstNo.{ConstNo}
use Rattle.prim_faults.specs.arena_heap.Values.{IsMethodOf}
use Rattle.prim_faults.specs.mpy_base.Val.{Built}
use Rattle.prim_faults.specs.py_values.Shown.{PlainHeap}
use Rattle.prim_faults.specs.py_primitives.Builtins.{named}
use Rattle.prim_faults.specs.py_primitives.Uses as uses
use Rattle.prim_faults.specs.prim_walks.Plain.{plain}
use Rattle.prim_faults.specs.Faults.{IsKnown}
use Rattle.prim_operators.specs.declared.attributes.Attribute.{Attribute}
use Rattle.prim_operators.specs.declared.attributes.Attribute.TheVariants as attributes

-- what an attribute is, as the primitives have it
abbrev pub plain_attribute : (StrNo → Option (List ℕ)) → (ConstNo → Option (List Value)) → Attribute → uses.Attribute
plain_attribute texts tuples (attributes.Found v) = uses.Found (plain texts tuples v)
plain_attribute texts tuples (attributes.Method method) = uses.Method method
plain_attribute texts tuples attributes.Absent = uses.Absent

-- a value that is known, or a method of the object's type
abbrev pub IsKnownAttribute : (StrNo → Option (List ℕ)) → (ConstNo → Option (List Value)) → Objects Value ℕ → Value → Attribute → Type 0
IsKnownAttribute texts tuples objects v (attributes.Found found) = IsKnown texts tuples objects found
IsKnownAttribute texts tuples objects v (attributes.Method method) = IsMethodOf method v
IsKnownAttribute texts tuples objects v attributes.Absent = Unit {0}

-- what values of a type have, by its methods
abbrev pub IsMethodsAttribute : List (List ℕ × Builtin) → (Value → Type 0) → List ℕ → Attribute → Type 0
IsMethodsAttribute methods Is name attribute =
    (texts : StrNo → Option (List ℕ)) (tuples : ConstNo → Option (List Value)) (objects : Objects Value ℕ) (v : Value) → Is v
    → (plain_attribute texts tuples attribute ≡ uses.found_method (named methods name)) × IsKnownAttribute texts tuples objects v attribute

-- what an exception with these arguments has
abbrev pub IsArgsAttribute : Value → List ℕ → Attribute → Type 0
IsArgsAttribute args name attribute =
    (texts : StrNo → Option (List ℕ)) (tuples : ConstNo → Option (List Value)) (objects : Objects Value ℕ) (v : Value) → IsKnown texts tuples objects args
    → (plain_attribute texts tuples attribute ≡ (if bytes_eq name (codes "args") then uses.Found (plain texts tuples args)
    else uses.Absent)) × IsKnownAttribute texts tuples objects v attribute

-- what a built-in has
abbrev pub IsBuiltAttribute : Builtin → List ℕ → Attribute → Type 0
IsBuiltAttribute b name attribute =
    (texts : StrNo → Option (List ℕ)) (tuples : ConstNo → Option (List Value)) (objects : Objects Value ℕ) (v : Value) (heap : PlainHeap)
    → (plain_attribute texts tuples attribute ≡ uses.attribute heap (Built b) name) × IsKnownAttribute texts tuples objects v attribute
