-- Constant tuples hold no objects of an arena.
use Rattle.std.proofs.Common.{◌≡◌, ◌+◌, ℕ, List, [], ◌∷◌, length, Option, Some, None, option_and_then}
use Rattle.std.specs.Prelude.{All, IfSome}
use Rattle.std.proofs.lemmas.List.Elements.{All-nil, All-cons}
use Rattle.arena_heap.specs.declared.value.Value.{Value}
use Rattle.arena_heap.specs.declared.value.ConstNo.{ConstNo}
use Rattle.arena_heap.specs.Constants.{HoldsNoObject, HoldNoObjects}
use Rattle.mpy_tree.specs.declared.module.Constant.{Constant, out-Constant}
use Rattle.mpy_tree.specs.declared.module.Constant.TheOpen.{Constant-F}
use Rattle.bc_library.specs.Shelf.{Shelf}
use Rattle.bc_library.specs.Constants.{constant_at, items_at, items_in, numbered, preorder, tuple_value, value_by, values_from}

tuple_holds : (c : ConstNo) (items : List Constant) → HoldsNoObject (tuple_value c items)
tuple_holds c [] = tt
tuple_holds c (item ∷ items) = tt

value_holds : (c : ConstNo) (object : Constant-F Constant) → HoldsNoObject (value_by c object)
value_holds c (Constant-F.Tuple items) = tuple_holds c items
value_holds c _ = tt

values_hold : (i n : ℕ) (objects : List Constant) → All HoldsNoObject (values_from i n objects)
values_hold i n [] = All-nil HoldsNoObject
values_hold i n (object ∷ objects) =
    All-cons HoldsNoObject (value_by (numbered i n) (out-Constant object)) (values_from i (n + length (preorder object)) objects) (value_holds (numbered i n) (out-Constant object))
    (values_hold i (n + length (preorder object)) objects)

items_hold : (c : ConstNo) (items : Option (List Constant)) → IfSome (option_and_then (λ xs. Some (values_from c.«module» (c.object + 1) xs)) items) (All HoldsNoObject)
items_hold c (Some items) = values_hold c.«module» (c.object + 1) items
items_hold c None = tt

object_holds : (c : ConstNo) (object : Option Constant)
    → IfSome (option_and_then (λ o. option_and_then (λ xs. Some (values_from c.«module» (c.object + 1) xs)) (items_in (out-Constant o))) object) (All HoldsNoObject)
object_holds c (Some object) = items_hold c (items_in (out-Constant object))
object_holds c None = tt

pub holds_none : (shelf : Shelf) → HoldNoObjects (items_at shelf)
holds_none shelf c = object_holds c (constant_at shelf c)
