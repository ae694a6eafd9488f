-- Strs, tuples and lists that are joined and repeated.
use Rattle.std.proofs.Common.{◌≡◌, ℕ, zero, suc, ℤ, List, ◌++◌, map, Option, Some, refl, sym, ap, ◌∙◌}
use Rattle.std.specs.List.{repeat}
use Rattle.std.proofs.lemmas.List.{map-append}
use Rattle.prim_faults.specs.arena_heap.declared.value.Value.{Value}
use Rattle.prim_faults.specs.arena_heap.declared.value.Value.TheVariants as values
use Rattle.prim_faults.specs.arena_heap.declared.value.StrNo.{StrNo}
use Rattle.prim_faults.specs.arena_heap.declared.value.ConstNo.{ConstNo}
use Rattle.prim_faults.specs.mpy_base.World.{ListObject, TupleObject, Heap, AList, ATuple, object, kind_of}
use Rattle.prim_faults.specs.mpy_base.Val.{Val}
use Rattle.prim_faults.specs.arena_heap.Values.{ArenaObject, Leads}
use Rattle.prim_faults.specs.arena_objects.Iterables.{given, items_in, spelled}
use Rattle.prim_faults.specs.py_values.Shown.{Shown, Number, Text, Tuple, Items, at_least_zero, shown, shown_object}
use Rattle.prim_faults.specs.py_primitives.Outcome.{making_tuple, making_list}
use Rattle.prim_faults.specs.py_primitives.Operators.{Add, Multiply, binary_shown}
use Rattle.prim_faults.specs.prim_walks.Plain.{plain, plain_object, plain_heap}
use Rattle.prim_faults.proofs.prim_walks_lemmas.PlainValues.{object_plain, fixed_shown}
use Rattle.prim_operators.specs.declared.operands.Shape.{Shape}
use Rattle.prim_operators.specs.declared.operands.Shape.TheVariants as shapes
use Rattle.prim_operators.specs.declared.sources.Source.TheVariants.{Joined, Repeated}
use Rattle.prim_operators.specs.Operands.{IsNested}
use Rattle.prim_faults.specs.Faults.{IsKnown}
use Rattle.prim_operators.specs.declared.operators.Operator.{Operator}
use Rattle.prim_operators.specs.declared.operators.Operator.TheVariants as operators
use Rattle.prim_operators.specs.Operators.{plain_operator}
use Rattle.prim_operators.specs.Pairs.{HasShape, AreShaped, joined}
use Rattle.prim_operators.proofs.ItemsShown.{str_shown}

map_repeat : {X Y : Type 0} (f : X → Y) (n : ℕ) (xs : List X) → map f (repeat n xs) ≡ repeat n (map f xs)
map_repeat f zero xs = refl
map_repeat f (suc n) xs = map-append f xs (repeat n xs) ∙ ap (λ ys. map f xs ++ ys) (map_repeat f n xs)

module _ (texts : StrNo → Option (List ℕ)) (tuples : ConstNo → Option (List Value)) (h : Heap Value ℕ) where
  -- what a value of a shape shows
  abbrev pub shown_as : Shape → Value → Shown
  shown_as shapes.Text v = Text (spelled texts h v)
  shown_as shapes.Tuple v = Tuple (map (plain texts tuples) (items_in tuples h v))
  shown_as shapes.List v = Items (map (plain texts tuples) (items_in tuples h v))

  tuple_here : (o : Option ArenaObject) → kind_of o ≡ Some ATuple → shown_object (plain_object texts tuples o) ≡ Tuple (map (plain texts tuples) (given o))
  tuple_here (Some (TupleObject items)) is = refl
  tuple_here _ is = absurd cc

  list_here : (o : Option ArenaObject) → kind_of o ≡ Some AList → shown_object (plain_object texts tuples o) ≡ Items (map (plain texts tuples) (given o))
  list_here (Some (ListObject items room)) is = refl
  list_here _ is = absurd cc

  pub shape_shown : (shape : Shape) (v : Value) → HasShape v shape → Leads h.objects v → IsNested tuples v → shown (plain_heap texts tuples h) (plain texts tuples v) ≡ shown_as shape v
  shape_shown shapes.Text v has leads nests = str_shown texts tuples h v has leads
  shape_shown shapes.Tuple values.Empty has leads nests = refl
  shape_shown shapes.Tuple (values.Fixed c) has leads nests = fixed_shown texts tuples (plain_heap texts tuples h) c nests
  shape_shown shapes.Tuple (values.Tuple t) has leads nests = ap shown_object (object_plain texts tuples h.objects t.cell) ∙ tuple_here (object h.objects t.cell) leads.meets
  shape_shown shapes.Tuple _ has leads nests = absurd has
  shape_shown shapes.List (values.List l) has leads nests = ap shown_object (object_plain texts tuples h.objects l.cell) ∙ list_here (object h.objects l.cell) leads.meets
  shape_shown shapes.List _ has leads nests = absurd has

  pub joined_add : (shape : Shape) (a b : Val) (left right : Value) → binary_shown (plain_heap texts tuples h) Add a b (shown_as shape left) (shown_as shape right) ≡ joined texts tuples h shape (Joined left right)
  joined_add shapes.Text a b left right = refl
  joined_add shapes.Tuple a b left right = ap (λ (xs : List Val). making_tuple (plain_heap texts tuples h) xs) (sym (map-append (plain texts tuples) (items_in tuples h left) (items_in tuples h right)))
  joined_add shapes.List a b left right = ap (λ (xs : List Val). making_list (plain_heap texts tuples h) xs) (sym (map-append (plain texts tuples) (items_in tuples h left) (items_in tuples h right)))

  pub joined_left : (shape : Shape) (a b : Val) (of : Value) (n : ℤ) → binary_shown (plain_heap texts tuples h) Multiply a b (shown_as shape of) (Number n) ≡ joined texts tuples h shape (Repeated (at_least_zero n) of)
  joined_left shapes.Text a b of n = refl
  joined_left shapes.Tuple a b of n = ap (λ (xs : List Val). making_tuple (plain_heap texts tuples h) xs) (sym (map_repeat (plain texts tuples) (at_least_zero n) (items_in tuples h of)))
  joined_left shapes.List a b of n = ap (λ (xs : List Val). making_list (plain_heap texts tuples h) xs) (sym (map_repeat (plain texts tuples) (at_least_zero n) (items_in tuples h of)))

  pub joined_right : (shape : Shape) (a b : Val) (of : Value) (n : ℤ) → binary_shown (plain_heap texts tuples h) Multiply a b (Number n) (shown_as shape of) ≡ joined texts tuples h shape (Repeated (at_least_zero n) of)
  joined_right shapes.Text a b of n = refl
  joined_right shapes.Tuple a b of n = ap (λ (xs : List Val). making_tuple (plain_heap texts tuples h) xs) (sym (map_repeat (plain texts tuples) (at_least_zero n) (items_in tuples h of)))
  joined_right shapes.List a b of n = ap (λ (xs : List Val). making_list (plain_heap texts tuples h) xs) (sym (map_repeat (plain texts tuples) (at_least_zero n) (items_in tuples h of)))

  pub shaped_joined : (shape : Shape) (left right : Value) → HasShape left shape → HasShape right shape → IsKnown texts tuples h.objects left → IsKnown texts tuples h.objects right → AreShaped texts tuples h.objects shape (Joined left right)
  shaped_joined shapes.Text left right has has_too k k' = (record { str = has; leads = k.leads; told = k.told }, record { str = has_too; leads = k'.leads; told = k'.told })
  shaped_joined shapes.Tuple left right has has_too k k' = (k, k')
  shaped_joined shapes.List left right has has_too k k' = (k, k')

  pub shaped_repeated : (shape : Shape) (of : Value) (times : ℕ) → HasShape of shape → IsKnown texts tuples h.objects of → AreShaped texts tuples h.objects shape (Repeated times of)
  shaped_repeated shapes.Text of times has k = record { str = has; leads = k.leads; told = k.told }
  shaped_repeated shapes.Tuple of times has k = k
  shaped_repeated shapes.List of times has k = k

pub no_add : (op : Operator) → (op ≡ operators.Add → ⊥) → plain_operator op ≡ Add → ⊥
no_add operators.Add other e = other refl
no_add _ other e = cc

pub no_multiply : (op : Operator) → (op ≡ operators.Multiply → ⊥) → plain_operator op ≡ Multiply → ⊥
no_multiply operators.Multiply other e = other refl
no_multiply _ other e = cc
