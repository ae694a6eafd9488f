-- Iterables and their items are the same.
use Rattle.std.proofs.Common.{◌≡◌, ℕ, List, [], ◌∷◌, map, Option, Some, None, refl, sym, ap, subst, ◌∙◌}
use Rattle.std.specs.Prelude.{slice_get, slice_index}
use Rattle.std.specs.List.{range_with_len}
use Rattle.std.specs.Option.{option_map}
use Rattle.std.proofs.lemmas.List.{length-map}
use Rattle.std.proofs.lemmas.Option.{slice_get-map}
use Rattle.bc_machine.specs.mpy_base.Val.{Val, Nil, Int}
use Rattle.bc_machine.specs.py_values.Shown.{PlainHeap, Shown, Nothing, Number, Text, Tuple, Items, Pairs, Range, Other, range_len, shown}
use Rattle.bc_machine.specs.py_values.Names.{type_name}
use Rattle.bc_machine.specs.py_primitives.Faults.{NotIterable}
use Rattle.bc_machine.specs.py_primitives.Outcome.{Outcome, gives}
use Rattle.bc_machine.specs.py_primitives.Iterables.{range_number, letter, shown_items, items_in, shown_length, length_of, or_nil, shown_item, item_of, over_items, iterating, use_iter, kept_items}
use Rattle.snap_laws.specs.Renamed.{Renaming, value, pair, shown_as, IsRenamed}
use Rattle.snap_laws.specs.Outcomes.{IsOutcome}
use Rattle.snap_laws.proofs.Seen.{seen}
use Rattle.snap_laws.proofs.Combining.{given, raised, type_as, text_made, texts_made}

module _ (r : Renaming) where
  -- values that no renaming changes
  fixed_as : {A : Type 0} (g : A → Val) → ((a : A) → value r (g a) ≡ g a) → (xs : List A)
      → map g xs ≡ map (value r) (map g xs)
  fixed_as g e [] = refl
  fixed_as g e (x ∷ xs) = ap (λ z. z ∷ map g xs) (sym (e x)) ∙ ap (λ z. value r (g x) ∷ z) (fixed_as g e xs)

  pub keys_as : (ps : List (Val × Val))
      → map (λ (p : Val × Val). p.0) (map (pair r) ps) ≡ map (value r) (map (λ (p : Val × Val). p.0) ps)
  keys_as [] = refl
  keys_as (p ∷ ps) = ap (λ z. value r p.0 ∷ z) (keys_as ps)

  pub values_as : (ps : List (Val × Val))
      → map (λ (p : Val × Val). p.1) (map (pair r) ps) ≡ map (value r) (map (λ (p : Val × Val). p.1) ps)
  values_as [] = refl
  values_as (p ∷ ps) = ap (λ z. value r p.1 ∷ z) (values_as ps)

  items_shown : (s : Shown) → shown_items (shown_as r s) ≡ option_map (map (value r)) (shown_items s)
  items_shown Nothing = refl
  items_shown (Number z) = refl
  items_shown (Text bytes) = ap Some (fixed_as letter (λ b. refl) bytes)
  items_shown (Tuple items) = refl
  items_shown (Items items) = refl
  items_shown (Pairs pairs) = ap Some (keys_as pairs)
  items_shown (Range start stop step) =
      ap Some (fixed_as (λ at. Int (range_number start step at)) (λ at. refl)
      (range_with_len 0 (range_len start stop step)))
  items_shown Other = refl

  length_shown : (s : Shown) → shown_length (shown_as r s) ≡ shown_length s
  length_shown Nothing = refl
  length_shown (Number z) = refl
  length_shown (Text bytes) = refl
  length_shown (Tuple items) = length-map items (value r)
  length_shown (Items items) = length-map items (value r)
  length_shown (Pairs pairs) = length-map pairs (pair r)
  length_shown (Range start stop step) = refl
  length_shown Other = refl

  nil_as : (o : Option Val) → or_nil (option_map (value r) o) ≡ value r (or_nil o)
  nil_as (Some v) = refl
  nil_as None = refl

  pub item_as : (items : List Val) (at : ℕ)
      → or_nil (slice_get (map (value r) items) at) ≡ value r (or_nil (slice_get items at))
  item_as items at = ap or_nil (slice_get-map (value r) items at) ∙ nil_as (slice_get items at)

  module _ (h k : PlainHeap) (is : IsRenamed r h k) where
    pub items_in_as : (v : Val) → items_in k (value r v) ≡ option_map (map (value r)) (items_in h v)
    items_in_as v = ap shown_items (seen r h k is v) ∙ items_shown (shown h v)

    pub length_as : (v : Val) → length_of k (value r v) ≡ length_of h v
    length_as v = ap shown_length (seen r h k is v) ∙ length_shown (shown h v)

    over_as : {A : Type 0} (f : A → A) (v : Val) (o : Option (List Val)) (next next' : List Val → Outcome A)
        → ((items : List Val) → IsOutcome r f (next items) (next' (map (value r) items)))
        → IsOutcome r f (over_items h v o next) (over_items k (value r v) (option_map (map (value r)) o) next')
    over_as f v (Some items) next next' on = on items
    over_as f v None next next' on =
        raised r f h k is (NotIterable (type_name h v)) (NotIterable (type_name k (value r v)))
        (ap NotIterable (type_as r h k is v))

    pub iterating_as : {A : Type 0} (f : A → A) (v : Val) (next next' : List Val → Outcome A)
        → ((items : List Val) → IsOutcome r f (next items) (next' (map (value r) items)))
        → IsOutcome r f (iterating h v next) (iterating k (value r v) next')
    iterating_as f v next next' on =
        subst (λ z. IsOutcome r f (iterating h v next) (over_items k (value r v) z next')) (sym (items_in_as v))
        (over_as f v (items_in h v) next next' on)

    pub iter_as : (v : Val) → IsOutcome r (value r) (use_iter h v) (use_iter k (value r v))
    iter_as v =
        iterating_as (value r) v (λ items. gives v h) (λ items. gives (value r v) k)
        (λ items. given r (value r) h k is v (value r v) refl)

    shown_item_as : (at : ℕ) (s : Shown) → IsOutcome r (value r) (shown_item h at s) (shown_item k at (shown_as r s))
    shown_item_as at (Text bytes) = text_made r h k is (slice_index bytes at ∷ [])
    shown_item_as at (Tuple items) =
        given r (value r) h k is (or_nil (slice_get items at)) (or_nil (slice_get (map (value r) items) at))
        (item_as items at)
    shown_item_as at (Items items) =
        given r (value r) h k is (or_nil (slice_get items at)) (or_nil (slice_get (map (value r) items) at))
        (item_as items at)
    shown_item_as at (Pairs pairs) =
        given r (value r) h k is (or_nil (slice_get (map (λ (p : Val × Val). p.0) pairs) at))
        (or_nil (slice_get (map (λ (p : Val × Val). p.0) (map (pair r) pairs)) at))
        (ap (λ z. or_nil (slice_get z at)) (keys_as pairs) ∙ item_as (map (λ (p : Val × Val). p.0) pairs) at)
    shown_item_as at (Range start stop step) =
        given r (value r) h k is (Int (range_number start step at)) (Int (range_number start step at)) refl
    shown_item_as at _ = given r (value r) h k is Nil Nil refl

    pub item_of_as : (v : Val) (at : ℕ) → IsOutcome r (value r) (item_of h v at) (item_of k (value r v) at)
    item_of_as v at =
        subst (λ s. IsOutcome r (value r) (item_of h v at) (shown_item k at s)) (sym (seen r h k is v))
        (shown_item_as at (shown h v))

  kept_shown : (h k : PlainHeap) → IsRenamed r h k → (items : List Val) (s : Shown)
      → IsOutcome r (map (value r)) (kept_items h items s) (kept_items k (map (value r) items) (shown_as r s))
  kept_shown h k is items (Text bytes) = texts_made r h k is (map (λ byte. byte ∷ []) bytes)
  kept_shown h k is items _ = given r (map (value r)) h k is items (map (value r) items) refl

  -- items as they are kept in heaps behind those in which the iterable is seen
  pub kept_as : (h k : PlainHeap) → IsRenamed r h k → (i j : PlainHeap) → IsRenamed r i j
      → (items : List Val) (v : Val)
      → IsOutcome r (map (value r)) (kept_items i items (shown h v))
      (kept_items j (map (value r) items) (shown k (value r v)))
  kept_as h k is i j at items v =
      subst (λ s. IsOutcome r (map (value r)) (kept_items i items (shown h v)) (kept_items j (map (value r) items) s))
      (sym (seen r h k is v)) (kept_shown i j at items (shown h v))
