-- What a program sees is the same.
use Rattle.std.proofs.Common.{◌≡◌, ℕ, zero, suc, Bool, true, false, cond, List, [], ◌∷◌, length, map, Option, Some, None, refl, sym, ap, ◌∙◌}
use Rattle.std.specs.Prelude.{nat_eq, bytes_eq}
use Rattle.std.specs.Option.{option_map}
use Rattle.std.proofs.lemmas.List.{length-map}
use Rattle.std.proofs.lemmas.Bool.{eqb-true, eqb-false, eq-eqb, ne_eqb}
use Rattle.bc_machine.specs.mpy_base.declared.limits.TheConstants.{MAX_WALK_DEPTH}
use Rattle.bc_machine.specs.mpy_base.World.{Object, ListObject, TupleObject, TextObject, DictObject, FunctionObject, ExceptionObject, MethodObject, RangeObject, ModuleObject, object}
use Rattle.bc_machine.specs.mpy_base.Val.{Val, Vals, Only, Then, Nil, Truth, Int, Str, Fixed, Empty, Built, At, vals}
use Rattle.bc_machine.specs.py_values.Shown.{PlainHeap, Shown, Nothing, Number, Text, Tuple, Items, Pairs, Range, Other, shown_object, shown, shown_truth, truth, is_empty}
use Rattle.bc_machine.specs.py_values.Keys.{shown_key, key_of, is_same_key, has_key, value_of_key}
use Rattle.bc_machine.specs.py_values.Equality.{Walk, answers, if_so, is_same, all_equal, equal_items, equal_found, all_found, equal_pairs, equal_shown, equal_within, equal, visit}
use Rattle.snap_laws.specs.Renamed.{Renaming, value, items_as, pair, object_as, shown_as, IsRenamed}

module _ (r : Renaming) where
  pub vals_as : (vs : Vals) → vals (items_as r vs) ≡ map (value r) (vals vs)
  vals_as (Only v) = refl
  vals_as (Then v vs) = ap (λ z. value r v ∷ z) (vals_as vs)

  object_shown : (o : Option (Object Val (List ℕ))) → shown_object (option_map (object_as r) o) ≡ shown_as r (shown_object o)
  object_shown None = refl
  object_shown (Some (ListObject items room)) = refl
  object_shown (Some (TupleObject items)) = refl
  object_shown (Some (TextObject bytes)) = refl
  object_shown (Some (DictObject pairs room)) = refl
  object_shown (Some (FunctionObject name module_name code names defaults)) = refl
  object_shown (Some (ExceptionObject kind args file line name)) = refl
  object_shown (Some (MethodObject v method)) = refl
  object_shown (Some (RangeObject start stop step)) = refl
  object_shown (Some (ModuleObject name names)) = refl

  module _ (h k : PlainHeap) (is : IsRenamed r h k) where
    pub seen : (v : Val) → shown k (value r v) ≡ shown_as r (shown h v)
    seen Nil = refl
    seen (Truth b) = refl
    seen (Int z) = refl
    seen (Str bytes) = refl
    seen (Fixed items) = ap Tuple (vals_as items)
    seen Empty = refl
    seen (Built b) = refl
    seen (At n) = ap shown_object (is.objects n) ∙ object_shown (object h.objects n)

    is_empty_as : {A B : Type 0} (f : A → B) (xs : List A) → is_empty (map f xs) ≡ is_empty xs
    is_empty_as f [] = refl
    is_empty_as f (x ∷ xs) = refl

    shown_truth_as : (s : Shown) → shown_truth (shown_as r s) ≡ shown_truth s
    shown_truth_as Nothing = refl
    shown_truth_as (Number z) = refl
    shown_truth_as (Text bytes) = refl
    shown_truth_as (Tuple items) = ap Rattle.std.specs.Prelude.not (is_empty_as (value r) items)
    shown_truth_as (Items items) = ap Rattle.std.specs.Prelude.not (is_empty_as (value r) items)
    shown_truth_as (Pairs pairs) = ap Rattle.std.specs.Prelude.not (is_empty_as (pair r) pairs)
    shown_truth_as (Range start stop step) = refl
    shown_truth_as Other = refl

    pub truth_as : (v : Val) → truth k (value r v) ≡ truth h v
    truth_as v = ap shown_truth (seen v) ∙ shown_truth_as (shown h v)

    -- keys
    key_shown : (s : Shown) → shown_key (shown_as r s) ≡ shown_key s
    key_shown Nothing = refl
    key_shown (Number z) = refl
    key_shown (Text bytes) = refl
    key_shown (Tuple items) = refl
    key_shown (Items items) = refl
    key_shown (Pairs pairs) = refl
    key_shown (Range start stop step) = refl
    key_shown Other = refl

    pub key_as : (v : Val) → key_of k (value r v) ≡ key_of h v
    key_as v = ap shown_key (seen v) ∙ key_shown (shown h v)

    pub has_key_as : (key : Val) (p : Val × Val) → has_key k (value r key) (pair r p) ≡ has_key h key p
    has_key_as key p = ap (λ z. is_same_key z (key_of k (value r key))) (key_as p.0) ∙ ap (is_same_key (key_of h p.0)) (key_as key)

    pub value_of_key_as : (pairs : List (Val × Val)) (key : Val) → value_of_key k (map (pair r) pairs) (value r key) ≡ option_map (value r) (value_of_key h pairs key)
    value_of_key_as [] key = refl
    value_of_key_as (p ∷ pairs) key =
        ap (λ b. cond b (Some (value r p.1)) (value_of_key k (map (pair r) pairs) (value r key))) (has_key_as key p)
        ∙ ap (λ z. cond (has_key h key p) (Some (value r p.1)) z) (value_of_key_as pairs key)
        ∙ chosen (has_key h key p) (Some p.1) (value_of_key h pairs key)
      where
        chosen : (b : Bool) (x y : Option Val) → cond b (option_map (value r) x) (option_map (value r) y) ≡ option_map (value r) (cond b x y)
        chosen true x y = refl
        chosen false x y = refl

    -- identity
    injective : (m n : ℕ) → r.to m ≡ r.to n → m ≡ n
    injective m n e = sym (r.back m) ∙ ap r.from e ∙ r.back n

    number_as : (m n : ℕ) → nat_eq (r.to m) (r.to n) ≡ nat_eq m n
    number_as m n = by_test (nat_eq m n) refl
      where
        by_test : (b : Bool) → nat_eq m n ≡ b → nat_eq (r.to m) (r.to n) ≡ nat_eq m n
        by_test true e = eq-eqb _ _ (ap r.to (eqb-true m n e)) ∙ sym e
        by_test false e = ne_eqb _ _ (λ f. eqb-false m n e (injective m n f)) ∙ sym e

    pub same_as : (a b : Val) → is_same (value r a) (value r b) ≡ is_same a b
    same_as Nil Nil = refl
    same_as (Built a) (Built b) = refl
    same_as (At m) (At n) = number_as m n
    same_as _ _ = refl

    -- equality
    module _ (eh ek : Val → Val → Walk Bool) (ih : (a b : Val) → ek (value r a) (value r b) ≡ eh a b) where
      all_equal_as : (xs ys : List Val) → all_equal k ek (map (value r) xs) (map (value r) ys) ≡ all_equal h eh xs ys
      all_equal_as [] ys = refl
      all_equal_as (x ∷ xs) [] = refl
      all_equal_as (x ∷ xs) (y ∷ ys) = ap (λ z. if_so z (all_equal k ek (map (value r) xs) (map (value r) ys))) (ih x y) ∙ ap (if_so (eh x y)) (all_equal_as xs ys)

      items_equal : (xs ys : List Val) → equal_items k ek (map (value r) xs) (map (value r) ys) ≡ equal_items h eh xs ys
      items_equal xs ys =
          ap (λ n. cond (nat_eq n (length (map (value r) ys))) (all_equal k ek (map (value r) xs) (map (value r) ys)) (answers false)) (length-map xs (value r))
          ∙ ap (λ n. cond (nat_eq (length xs) n) (all_equal k ek (map (value r) xs) (map (value r) ys)) (answers false)) (length-map ys (value r))
          ∙ ap (λ z. cond (nat_eq (length xs) (length ys)) z (answers false)) (all_equal_as xs ys)

      found_as : (x : Val) (o : Option Val) (p q : Walk Bool) → p ≡ q → equal_found k ek (value r x) (option_map (value r) o) p ≡ equal_found h eh x o q
      found_as x None p q e = refl
      found_as x (Some y) p q e = ap (λ z. if_so z p) (ih x y) ∙ ap (if_so (eh x y)) e

      all_found_as : (ps qs : List (Val × Val)) → all_found k ek (map (pair r) ps) (map (pair r) qs) ≡ all_found h eh ps qs
      all_found_as [] qs = refl
      all_found_as (p ∷ ps) qs =
          ap (λ z. equal_found k ek (value r p.1) z (all_found k ek (map (pair r) ps) (map (pair r) qs))) (value_of_key_as qs p.0)
          ∙ found_as p.1 (value_of_key h qs p.0) _ _ (all_found_as ps qs)

      pairs_equal : (ps qs : List (Val × Val)) → equal_pairs k ek (map (pair r) ps) (map (pair r) qs) ≡ equal_pairs h eh ps qs
      pairs_equal ps qs =
          ap (λ n. cond (nat_eq n (length (map (pair r) qs))) (all_found k ek (map (pair r) ps) (map (pair r) qs)) (answers false)) (length-map ps (pair r))
          ∙ ap (λ n. cond (nat_eq (length ps) n) (all_found k ek (map (pair r) ps) (map (pair r) qs)) (answers false)) (length-map qs (pair r))
          ∙ ap (λ z. cond (nat_eq (length ps) (length qs)) z (answers false)) (all_found_as ps qs)

      shown_equal : (a b : Val) (s t : Shown) → equal_shown k ek (value r a) (value r b) (shown_as r s) (shown_as r t) ≡ equal_shown h eh a b s t
      shown_equal a b (Number x) (Number y) = refl
      shown_equal a b (Text x) (Text y) = refl
      shown_equal a b (Tuple xs) (Tuple ys) = items_equal xs ys
      shown_equal a b (Items xs) (Items ys) = items_equal xs ys
      shown_equal a b (Pairs ps) (Pairs qs) = pairs_equal ps qs
      shown_equal a b (Range start stop step) (Range start' stop' step') = refl
      shown_equal a b _ _ = ap answers (same_as a b)

    pub within : (depth : ℕ) (a b : Val) → equal_within k depth (value r a) (value r b) ≡ equal_within h depth a b
    within zero a b = refl
    within (suc depth) a b =
        ap visit (
        ap (λ s. equal_shown k (equal_within k depth) (value r a) (value r b) s (shown k (value r b))) (seen a)
        ∙ ap (λ t. equal_shown k (equal_within k depth) (value r a) (value r b) (shown_as r (shown h a)) t) (seen b)
        ∙ shown_equal (equal_within h depth) (equal_within k depth) (within depth) a b (shown h a) (shown h b))

    pub equal_as : (a b : Val) → equal k (value r a) (value r b) ≡ equal h a b
    unfolding equal
    equal_as a b = within MAX_WALK_DEPTH a b
