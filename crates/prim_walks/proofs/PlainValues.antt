-- Values and objects of an arena as the meaning has them.
use Rattle.std.proofs.Common.{◌≡◌, ℕ, zero, suc, ℤ, List, [], ◌∷◌, map, Option, Some, None, refl, sym, ap, ap₂, ◌∙◌}
use Rattle.std.specs.Prelude.{slice_get, IfSome}
use Rattle.std.proofs.Math.ListN.{get_or-map}
use Rattle.arena_objects.specs.arena_heap.declared.value.Value.{Value}
use Rattle.arena_objects.specs.arena_heap.declared.value.Value.TheVariants as values
use Rattle.arena_objects.specs.arena_heap.declared.value.StrNo.{StrNo}
use Rattle.arena_objects.specs.arena_heap.declared.value.ConstNo.{ConstNo}
use Rattle.py_primitives.specs.mpy_base.World.{TextObject, RangeObject, Heap, AText, IsA, object, kind_of, text_of, text_at}
use Rattle.py_primitives.specs.mpy_base.Val.{Val, At, vals}
use Rattle.arena_objects.specs.arena_heap.Values.{ArenaObject}
use Rattle.arena_objects.specs.arena_heap.Constants.{NestsWithin}
use Rattle.arena_objects.specs.Iterables.{or_nothing}
use Rattle.py_primitives.specs.py_values.Shown.{PlainHeap, Text, Tuple, Range, shown, shown_object}
use Rattle.prim_walks.specs.Plain.{vals_from, fixed_of, plain_by, fixed_within, plain, plain_object, plain_heap}

vals_same : (v : Val) (vs : List Val) → vals (vals_from v vs) ≡ v ∷ vs
vals_same v [] = refl
vals_same v (w ∷ vs) = ap (λ (ws : List Val). v ∷ ws) (vals_same w vs)

-- a constant tuple shows its items
pub shown_fixed : (heap : PlainHeap) (items : List Val) → shown heap (fixed_of items) ≡ Tuple items
shown_fixed heap [] = refl
shown_fixed heap (v ∷ vs) = ap (λ (ws : List Val). Tuple ws) (vals_same v vs)

module _ (texts : StrNo → Option (List ℕ)) (tuples : ConstNo → Option (List Value)) where
  pub object_plain : (objects : List (Option ArenaObject)) (n : ℕ) → object (map (plain_object texts tuples) objects) n ≡ plain_object texts tuples (object objects n)
  object_plain objects n = get_or-map (plain_object texts tuples) objects n None

  of_text : (o : Option ArenaObject) → kind_of o ≡ Some AText → shown_object (plain_object texts tuples o) ≡ Text (text_of o)
  of_text (Some (TextObject bytes)) e = refl
  of_text _ e = absurd cc

  pub text_shown : (heap : Heap Value ℕ) (n : ℕ) → IsA heap.objects AText n → shown (plain_heap texts tuples heap) (At n) ≡ Text (text_at heap n)
  text_shown heap n is = ap shown_object (object_plain heap.objects n) ∙ of_text (object heap.objects n) is

  pub range_shown : (heap : Heap Value ℕ) (n : ℕ) (start stop step : ℤ) → object heap.objects n ≡ Some (RangeObject start stop step) → shown (plain_heap texts tuples heap) (At n) ≡ Range start stop step
  range_shown heap n start stop step e = ap shown_object (object_plain heap.objects n) ∙ ap (λ (o : Option ArenaObject). shown_object (plain_object texts tuples o)) e

  same_by : (f g : ConstNo → Val) (v : Value) → ((d : ConstNo) → v ≡ values.Fixed d → f d ≡ g d) → plain_by texts f v ≡ plain_by texts g v
  same_by f g (values.Fixed d) h = h d refl
  same_by f g _ h = refl

  map_same : (f g : ConstNo → Val) (items : List Value) → ((k : ℕ) (d : ConstNo) → slice_get items k ≡ Some (values.Fixed d) → f d ≡ g d)
      → map (plain_by texts f) items ≡ map (plain_by texts g) items
  map_same f g [] h = refl
  map_same f g (v ∷ vs) h =
      ap₂ (λ (w : Val) (ws : List Val). w ∷ ws) (same_by f g v (λ d e. h zero d (ap (λ (x : Value). Some x) e))) (map_same f g vs (λ k d e. h (suc k) d e))

  -- the items of a tuple, where what nests in them is the same
  items_same : (f g : ConstNo → Val) (n : ℕ) (o : Option (List Value)) → IfSome o (λ items. (k : ℕ) (d : ConstNo) → slice_get items k ≡ Some (values.Fixed d) → NestsWithin tuples n d)
      → ((d : ConstNo) → NestsWithin tuples n d → f d ≡ g d) → map (plain_by texts f) (or_nothing o) ≡ map (plain_by texts g) (or_nothing o)
  items_same f g n None nests h = refl
  items_same f g n (Some items) nests h = map_same f g items (λ k d e. h d (nests k d e))

  pub within_step : (n : ℕ) (c : ConstNo) → fixed_within texts tuples (suc n) c ≡ fixed_of (map (plain_by texts (fixed_within texts tuples n)) (or_nothing (tuples c)))
  unfolding fixed_within
  within_step n c = refl

  within_zero : (c : ConstNo) → fixed_within texts tuples zero c ≡ fixed_of []
  unfolding fixed_within
  within_zero c = refl

  -- a tuple that nests so deep is whole at that depth
  settled : (n : ℕ) (c : ConstNo) → NestsWithin tuples n c → fixed_within texts tuples (suc n) c ≡ fixed_within texts tuples n c
  settled zero c nests = within_step zero c ∙ (ap (λ (o : Option (List Value)). fixed_of (map (plain_by texts (fixed_within texts tuples zero)) (or_nothing o))) nests ∙ sym (within_zero c))
  settled (suc n) c nests =
      within_step (suc n) c
      ∙ (ap fixed_of (items_same (fixed_within texts tuples (suc n)) (fixed_within texts tuples n) n (tuples c) nests (λ d p. settled n d p)) ∙ sym (within_step n c))

  -- a constant tuple has the values of its items
  pub fixed_plain : (c : ConstNo) → NestsWithin tuples 32 c → plain texts tuples (values.Fixed c) ≡ fixed_of (map (plain texts tuples) (or_nothing (tuples c)))
  fixed_plain c nests =
      within_step 31 c ∙ ap fixed_of (items_same (fixed_within texts tuples 31) (fixed_within texts tuples 32) 31 (tuples c) nests (λ d p. sym (settled 31 d p)))

  -- what a constant tuple shows
  pub fixed_shown : (heap : PlainHeap) (c : ConstNo) → NestsWithin tuples 32 c → shown heap (plain texts tuples (values.Fixed c)) ≡ Tuple (map (plain texts tuples) (or_nothing (tuples c)))
  fixed_shown heap c nests =
      ap (shown heap) (within_step 31 c)
      ∙ (shown_fixed heap (map (plain_by texts (fixed_within texts tuples 31)) (or_nothing (tuples c)))
      ∙ ap (λ (ws : List Val). Tuple ws) (items_same (fixed_within texts tuples 31) (fixed_within texts tuples 32) 31 (tuples c) nests (λ d p. sym (settled 31 d p))))
