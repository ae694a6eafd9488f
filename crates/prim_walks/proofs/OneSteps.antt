-- Values that are one, by their forms.
use Rattle.std.proofs.Common.{◌≡◌, ℕ, suc, ◌+◌, ℤ, List, [], ◌∷◌, Bool, true, false, ◌&&◌, Option, Some, length, map, drop, refl, sym, ap, ◌∙◌}
use Rattle.std.specs.Prelude.{slice_get}
use Rattle.arena_objects.specs.arena_heap.declared.value.Value.{Value}
use Rattle.arena_objects.specs.arena_heap.declared.value.Value.TheVariants as values
use Rattle.arena_objects.specs.arena_heap.declared.value.StrNo.{StrNo}
use Rattle.arena_objects.specs.arena_heap.declared.value.ConstNo.{ConstNo}
use Rattle.py_primitives.specs.mpy_base.World.{Heap}
use Rattle.py_primitives.specs.mpy_base.Val.{Val, Truth, Int}
use Rattle.arena_objects.specs.arena_heap.Constants.{NestsWithin}
use Rattle.arena_objects.specs.Iterables.{or_nothing, items_in}
use Rattle.py_primitives.specs.py_values.Shown.{PlainHeap}
use Rattle.py_primitives.specs.Operators.{is_one, are_one}
use Rattle.prim_walks.specs.Plain.{vals_from, fixed_of, plain_by, fixed_within, plain}
use Rattle.prim_walks.specs.Ones.{all_one, IsConstant}
use Rattle.prim_walks.proofs.PlainValues.{within_step, fixed_plain}
use Rattle.prim_walks.proofs.EqualSteps.{dropped}

module _ (heap : PlainHeap) where
  from_one : (v : Val) (vs : List Val) (w : Val) (ws : List Val) → are_one heap (vals_from v vs) (vals_from w ws) ≡ all_one heap (v ∷ vs) (w ∷ ws)
  from_one v [] w [] = sym (and_true (is_one heap v w))
    where
      and_true : (b : Bool) → (b && true) ≡ b
      and_true true = refl
      and_true false = refl
  from_one v [] w (y ∷ ws) = sym (and_false (is_one heap v w))
    where
      and_false : (b : Bool) → (b && false) ≡ false
      and_false true = refl
      and_false false = refl
  from_one v (x ∷ vs) w [] = sym (and_false (is_one heap v w))
    where
      and_false : (b : Bool) → (b && false) ≡ false
      and_false true = refl
      and_false false = refl
  from_one v (x ∷ vs) w (y ∷ ws) = ap (λ (b : Bool). is_one heap v w && b) (from_one x vs y ws)

  pub fixed_one : (xs ys : List Val) → is_one heap (fixed_of xs) (fixed_of ys) ≡ all_one heap xs ys
  fixed_one [] [] = refl
  fixed_one [] (y ∷ ys) = refl
  fixed_one (x ∷ xs) [] = refl
  fixed_one (x ∷ xs) (y ∷ ys) = from_one x xs y ys

  truth_fixed : (b : Bool) (xs : List Val) → is_one heap (Truth b) (fixed_of xs) ≡ false
  truth_fixed true [] = refl
  truth_fixed true (x ∷ xs) = refl
  truth_fixed false [] = refl
  truth_fixed false (x ∷ xs) = refl

  int_fixed : (z : ℤ) (xs : List Val) → is_one heap (Int z) (fixed_of xs) ≡ false
  int_fixed z [] = refl
  int_fixed z (x ∷ xs) = refl

module _ (heap : PlainHeap) (texts : StrNo → Option (List ℕ)) (tuples : ConstNo → Option (List Value)) where
  pub truth_other : (x : Bool) (v : Value) → ((y : Bool) → v ≡ values.Bool y → ⊥) → is_one heap (Truth x) (plain texts tuples v) ≡ false
  truth_other x (values.Bool y) ne = absurd (ne y refl)
  truth_other x (values.Fixed c) ne = ap (is_one heap (Truth x)) (within_step texts tuples 31 c) ∙ truth_fixed heap x (map (plain_by texts (fixed_within texts tuples 31)) (or_nothing (tuples c)))
  truth_other true _ ne = refl
  truth_other false _ ne = refl

  pub int_other : (z : ℤ) (v : Value) → ((y : ℤ) → v ≡ values.Int y → ⊥) → is_one heap (Int z) (plain texts tuples v) ≡ false
  int_other z (values.Int y) ne = absurd (ne y refl)
  int_other z (values.Fixed c) ne = ap (is_one heap (Int z)) (within_step texts tuples 31 c) ∙ int_fixed heap z (map (plain_by texts (fixed_within texts tuples 31)) (or_nothing (tuples c)))
  int_other z _ ne = refl

  fixed_rest : (xs : List Val) (v : Value) → ((c : ConstNo) → v ≡ values.Fixed c → ⊥) → (v ≡ values.Empty → ⊥) → is_one heap (fixed_of xs) (plain texts tuples v) ≡ false
  fixed_rest xs (values.Fixed c) f m = absurd (f c refl)
  fixed_rest xs values.Empty f m = absurd (m refl)
  fixed_rest [] _ f m = refl
  fixed_rest (x ∷ xs) _ f m = refl

  -- the value of a constant tuple
  pub constant_plain : (h : Heap Value ℕ) (v : Value) → IsConstant v → ((c : ConstNo) → v ≡ values.Fixed c → NestsWithin tuples 32 c) → plain texts tuples v ≡ fixed_of (map (plain texts tuples) (items_in tuples h v))
  constant_plain h (values.Fixed c) t nests = fixed_plain texts tuples c (nests c refl)
  constant_plain h values.Empty t nests = refl
  constant_plain h _ t nests = absurd t

  pub tuple_other : (h : Heap Value ℕ) (a b : Value) → IsConstant a → ((c : ConstNo) → a ≡ values.Fixed c → NestsWithin tuples 32 c) → ((c : ConstNo) → b ≡ values.Fixed c → ⊥) → (b ≡ values.Empty → ⊥)
      → is_one heap (plain texts tuples a) (plain texts tuples b) ≡ false
  tuple_other h a b t nests f m =
      ap (λ (v : Val). is_one heap v (plain texts tuples b)) (constant_plain h a t nests) ∙ fixed_rest (map (plain texts tuples) (items_in tuples h a)) b f m

  pub tuples_one : (h : Heap Value ℕ) (a b : Value) → IsConstant a → IsConstant b → ((c : ConstNo) → a ≡ values.Fixed c → NestsWithin tuples 32 c) → ((c : ConstNo) → b ≡ values.Fixed c → NestsWithin tuples 32 c)
      → is_one heap (plain texts tuples a) (plain texts tuples b) ≡ all_one heap (map (plain texts tuples) (items_in tuples h a)) (map (plain texts tuples) (items_in tuples h b))
  tuples_one h a b t u nests other =
      ap (λ (v : Val). is_one heap v (plain texts tuples b)) (constant_plain h a t nests)
      ∙ (ap (is_one heap (fixed_of (map (plain texts tuples) (items_in tuples h a)))) (constant_plain h b u other)
      ∙ fixed_one heap (map (plain texts tuples) (items_in tuples h a)) (map (plain texts tuples) (items_in tuples h b)))

-- a pair of items, the end, and lists of different length
module _ {X : Type 0} (heap : PlainHeap) (f : X → Val) where
  pub one_step : (xs ys : List X) (at : ℕ) (x y : X) (b : Bool) → slice_get xs at ≡ Some x → slice_get ys at ≡ Some y → b ≡ is_one heap (f x) (f y)
      → all_one heap (drop at (map f xs)) (drop at (map f ys)) ≡ (b && all_one heap (drop (at + 1) (map f xs)) (drop (at + 1) (map f ys)))
  one_step xs ys at x y b is_x is_y e =
      let rest = all_one heap (drop (at + 1) (map f xs)) (drop (at + 1) (map f ys)) in
      ap (λ (zs : List Val). all_one heap zs (drop at (map f ys))) (dropped f xs at x is_x)
      ∙ (ap (λ (zs : List Val). all_one heap (f x ∷ drop (at + 1) (map f xs)) zs) (dropped f ys at y is_y) ∙ ap (λ (t : Bool). t && rest) (sym e))

  pub one_lengths : (xs ys : List X) → (length xs ≡ length ys → ⊥) → all_one heap (map f xs) (map f ys) ≡ false
  one_lengths [] [] ne = absurd (ne refl)
  one_lengths [] (y ∷ ys) ne = refl
  one_lengths (x ∷ xs) [] ne = refl
  one_lengths (x ∷ xs) (y ∷ ys) ne = ap (λ (b : Bool). is_one heap (f x) (f y) && b) (one_lengths xs ys (λ e. ne (ap suc e))) ∙ and_false (is_one heap (f x) (f y))
    where
      and_false : (b : Bool) → (b && false) ≡ false
      and_false true = refl
      and_false false = refl
