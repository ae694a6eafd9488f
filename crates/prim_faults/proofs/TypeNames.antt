-- The types of constant tuples.
use Rattle.std.proofs.Common.{◌≡◌, ℕ, List, [], ◌∷◌, map, Option, refl, sym, ap, ◌∙◌}
use Rattle.std.specs.Prelude.{codes}
use Rattle.prim_walks.specs.arena_heap.declared.value.Value.{Value}
use Rattle.prim_walks.specs.arena_heap.declared.value.Value.TheVariants as values
use Rattle.prim_walks.specs.arena_heap.declared.value.StrNo.{StrNo}
use Rattle.prim_walks.specs.arena_heap.declared.value.ConstNo.{ConstNo}
use Rattle.prim_walks.specs.mpy_base.World.{Heap}
use Rattle.prim_walks.specs.mpy_base.Val.{Val}
use Rattle.prim_walks.specs.arena_objects.Iterables.{or_nothing}
use Rattle.prim_walks.specs.py_values.Shown.{PlainHeap}
use Rattle.prim_walks.specs.py_values.Names.{type_name}
use Rattle.prim_walks.specs.Plain.{plain, plain_by, plain_heap, fixed_of, fixed_within}
use Rattle.prim_walks.proofs.PlainValues.{within_step}

tuple_named : (heap : PlainHeap) (items : List Val) → codes "tuple" ≡ type_name heap (fixed_of items)
tuple_named heap [] = refl
tuple_named heap (v ∷ vs) = refl

pub fixed_named : (texts : StrNo → Option (List ℕ)) (tuples : ConstNo → Option (List Value)) (heap : Heap Value ℕ) (v : Value) (c : ConstNo) → v ≡ values.Fixed c
    → codes "tuple" ≡ type_name (plain_heap texts tuples heap) (plain texts tuples v)
fixed_named texts tuples heap v c is =
    let items = map (plain_by texts (fixed_within texts tuples 31)) (or_nothing (tuples c)) in
    let named : Val → List ℕ = type_name (plain_heap texts tuples heap) in
    tuple_named (plain_heap texts tuples heap) items ∙ sym (ap (λ (w : Value). named (plain texts tuples w)) is ∙ ap named (within_step texts tuples 31 c))
