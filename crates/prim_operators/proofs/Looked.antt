-- What values of an arena show.
use Rattle.std.proofs.Common.{◌≡◌, ℕ, ℤ, List, map, Option, Some, None, refl, ap, ◌∙◌}
use Rattle.prim_faults.specs.arena_heap.declared.value.Value.{Value}
use Rattle.prim_faults.specs.arena_heap.declared.value.Value.TheVariants as values
use Rattle.prim_faults.specs.arena_heap.declared.value.StrNo.{StrNo}
use Rattle.prim_faults.specs.arena_heap.declared.value.ConstNo.{ConstNo}
use Rattle.prim_faults.specs.mpy_base.World.{Object, ListObject, TupleObject, TextObject, DictObject, RangeObject, Heap, object}
use Rattle.prim_faults.specs.mpy_base.Val.{Val}
use Rattle.prim_faults.specs.arena_objects.Iterables.{or_nothing}
use Rattle.prim_faults.specs.py_values.Shown.{PlainHeap, Shown, Number, shown, shown_object}
use Rattle.prim_faults.specs.py_values.Names.{type_name}
use Rattle.prim_faults.specs.py_primitives.Faults.{UnsupportedOne}
use Rattle.prim_faults.specs.py_primitives.Outcome.{raises}
use Rattle.prim_faults.specs.py_primitives.Operators.{UnaryOperator, unary_method, unary_shown}
use Rattle.prim_faults.specs.prim_walks.Plain.{plain, plain_by, plain_heap, fixed_within}
use Rattle.prim_faults.proofs.prim_walks_lemmas.PlainValues.{within_step, shown_fixed}
use Rattle.prim_operators.specs.Operands.{number_in}

-- the number that is shown
abbrev pub shown_number : Shown → Option ℤ
shown_number (Number z) = Some z
shown_number _ = None

pub is_number : (s : Shown) (z : ℤ) → shown_number s ≡ Some z → s ≡ Number z
is_number (Number y) z e = let same : y ≡ z = cc in ap (λ (x : ℤ). Number x) same
is_number _ z e = absurd cc

object_number : (o : Option (Object Val (List ℕ))) → shown_number (shown_object o) ≡ None
object_number (Some (ListObject items room)) = refl
object_number (Some (TupleObject items)) = refl
object_number (Some (TextObject bytes)) = refl
object_number (Some (DictObject pairs room)) = refl
object_number (Some (RangeObject start stop step)) = refl
object_number _ = refl

module _ (texts : StrNo → Option (List ℕ)) (tuples : ConstNo → Option (List Value)) (h : Heap Value ℕ) where
  pub number_shown : (v : Value) → shown_number (shown (plain_heap texts tuples h) (plain texts tuples v)) ≡ number_in v
  number_shown values.None = refl
  number_shown (values.Bool b) = refl
  number_shown (values.Int z) = refl
  number_shown (values.Str s) = refl
  number_shown (values.Fixed c) =
      let heap = plain_heap texts tuples h in
      let items = map (plain_by texts (fixed_within texts tuples 31)) (or_nothing (tuples c)) in
      ap (λ (w : Val). shown_number (shown heap w)) (within_step texts tuples 31 c) ∙ ap shown_number (shown_fixed heap items)
  number_shown values.Empty = refl
  number_shown (values.List l) = object_number (object (plain_heap texts tuples h).objects l.cell)
  number_shown (values.Dict l) = object_number (object (plain_heap texts tuples h).objects l.cell)
  number_shown (values.Tuple l) = object_number (object (plain_heap texts tuples h).objects l.cell)
  number_shown (values.Text l) = object_number (object (plain_heap texts tuples h).objects l.cell)
  number_shown (values.Fun l) = object_number (object (plain_heap texts tuples h).objects l.cell)
  number_shown (values.Exc l) = object_number (object (plain_heap texts tuples h).objects l.cell)
  number_shown (values.Method l) = object_number (object (plain_heap texts tuples h).objects l.cell)
  number_shown (values.Range l) = object_number (object (plain_heap texts tuples h).objects l.cell)
  number_shown (values.Module l) = object_number (object (plain_heap texts tuples h).objects l.cell)
  number_shown (values.Built b) = refl

  -- a value that counts as a number shows it
  pub shows_number : (v : Value) (z : ℤ) → number_in v ≡ Some z → shown (plain_heap texts tuples h) (plain texts tuples v) ≡ Number z
  shows_number v z e = is_number _ z (number_shown v ∙ e)

-- of no number
pub unary_other : (heap : PlainHeap) (op : UnaryOperator) (v : Val) (s : Shown) → shown_number s ≡ None → unary_shown heap op v s ≡ raises (UnsupportedOne (unary_method op) (type_name heap v)) heap
unary_other heap op v (Number z) e = absurd cc
unary_other heap op v _ e = refl
