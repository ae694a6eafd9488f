-- Comparisons are the same, and the operators of one operand and in place.
use Rattle.std.proofs.Common.{◌≡◌, ℕ, zero, suc, Bool, true, false, ◌&&◌, cond, List, [], ◌∷◌, ◌++◌, length, map, Option, Some, None, Result, Ok, Err, refl, sym, ap, subst, ◌∙◌}
use Rattle.std.specs.Prelude.{not, is_some, option_and_then, codes}
use Rattle.std.specs.List.{list_any}
use Rattle.std.specs.Option.{option_map}
use Rattle.std.specs.declared.cmp.Ordering.{Ordering}
use Rattle.std.specs.Ordering.{nat_cmp}
use Rattle.std.proofs.lemmas.List.{length-map, map-append}
use Rattle.bc_machine.specs.mpy_base.declared.limits.TheConstants.{MAX_WALK_DEPTH}
use Rattle.bc_machine.specs.mpy_base.declared.kind.Kind.{Kind}
use Rattle.bc_machine.specs.mpy_base.World.{Object, ListObject, TupleObject, DictObject, TextObject, FunctionObject, ExceptionObject, MethodObject, RangeObject, ModuleObject, object, items_at, with_list}
use Rattle.bc_machine.specs.mpy_base.Weights.{does_fit, list_growth, with_list_room}
use Rattle.bc_machine.specs.mpy_base.Val.{Val, Vals, Only, Then, Nil, Truth, Int, Str, Fixed, Empty, Built, At}
use Rattle.bc_machine.specs.py_values.Shown.{PlainHeap, Shown, Nothing, Number, Text, Tuple, Items, Pairs, Range, Other, shown, truth}
use Rattle.bc_machine.specs.py_values.Keys.{value_of_key}
use Rattle.bc_machine.specs.py_values.Names.{type_name}
use Rattle.bc_machine.specs.py_values.Equality.{Walk, answers, visit, equal, equal_within}
use Rattle.bc_machine.specs.py_primitives.Walks.{walk_map}
use Rattle.bc_machine.specs.py_primitives.Faults.{UnsupportedOne, UnsupportedMatch}
use Rattle.bc_machine.specs.py_primitives.Outcome.{Outcome, gives, is_full, followed_by, after_walk}
use Rattle.bc_machine.specs.py_primitives.Order.{Sign, has_sign, Unordered, order_items, order_shown, order_within, order}
use Rattle.bc_machine.specs.py_primitives.Iterables.{kept_items}
use Rattle.bc_machine.specs.py_primitives.Operators.{Operator, Add, extended_by, extend, in_place_shown, in_place, UnaryOperator, unary_method, unary_answer, unary_shown, unary, unary_not, op_eq, op_ne, gives_order, op_order, sign_method, is_one_shown, is_one, are_one, op_is, contains_equal, is_part, is_in_range, contains_shown, op_contains, raised_kind, exception_kind, named_kind, members, all_of, is_under, match_kinds, op_match}
use Rattle.snap_laws.specs.Renamed.{Renaming, value, items_as, pair, object_as, shown_as, IsRenamed}
use Rattle.snap_laws.specs.Outcomes.{IsOutcome, order_as}
use Rattle.snap_laws.proofs.Seen.{seen, truth_as, same_as, value_of_key_as, within, equal_as}
use Rattle.snap_laws.proofs.Combining.{given, raised, fitting, visited, followed, walked, walked_same, then_same, then_equal, type_as, items_of_object, list_growth_as, grown_room_of, put_list}
use Rattle.snap_laws.proofs.Iterating.{iterating_as, kept_as}
use Rattle.snap_laws.proofs.Binary.{number_given, unsupported_as, binary_as}
use Rattle.snap_laws.proofs.Using.{keyed}

pub is_some_as : {A B : Type 0} (f : A → B) (o : Option A) → is_some (option_map f o) ≡ is_some o
is_some_as f (Some a) = refl
is_some_as f None = refl

module _ (r : Renaming) where
  -- exceptions and kinds
  kind_object : (o : Option (Object Val (List ℕ))) → raised_kind (option_map (object_as r) o) ≡ raised_kind o
  kind_object None = refl
  kind_object (Some (ListObject items room)) = refl
  kind_object (Some (TupleObject items)) = refl
  kind_object (Some (TextObject bytes)) = refl
  kind_object (Some (DictObject pairs room)) = refl
  kind_object (Some (FunctionObject name module_name code names defaults)) = refl
  kind_object (Some (ExceptionObject kind args file line name)) = refl
  kind_object (Some (MethodObject v method)) = refl
  kind_object (Some (RangeObject start stop step)) = refl
  kind_object (Some (ModuleObject name names)) = refl

  pub named_kind_as : (v : Val) → named_kind (value r v) ≡ named_kind v
  named_kind_as Nil = refl
  named_kind_as (Truth b) = refl
  named_kind_as (Int z) = refl
  named_kind_as (Str bytes) = refl
  named_kind_as (Fixed items) = refl
  named_kind_as Empty = refl
  named_kind_as (Built b) = refl
  named_kind_as (At n) = refl

  members_as : (v : Val) (s : Shown) → members (value r v) (shown_as r s) ≡ map (value r) (members v s)
  members_as v Nothing = refl
  members_as v (Number z) = refl
  members_as v (Text bytes) = refl
  members_as v (Tuple items) = refl
  members_as v (Items items) = refl
  members_as v (Pairs pairs) = refl
  members_as v (Range start stop step) = refl
  members_as v Other = refl

  all_of_as : {A : Type 0} (f : Val → Option A) → ((v : Val) → f (value r v) ≡ f v) → (vs : List Val)
      → all_of f (map (value r) vs) ≡ all_of f vs
  all_of_as f e [] = refl
  all_of_as f e (v ∷ vs) =
      ap (λ z. option_and_then (λ x. option_map (λ xs. x ∷ xs) (all_of f (map (value r) vs))) z) (e v)
      ∙ ap (λ z. option_and_then (λ x. option_map (λ xs. x ∷ xs) z) (f v)) (all_of_as f e vs)

  module _ (h k : PlainHeap) (is : IsRenamed r h k) where
    abbrev Same : Outcome Val → Outcome Val → Type 0
    Same o p = IsOutcome r (value r) o p

    -- one operand
    unary_shown_as : (op : UnaryOperator) (v : Val) (s : Shown)
        → Same (unary_shown h op v s) (unary_shown k op (value r v) (shown_as r s))
    unary_shown_as op v (Number z) = number_given r h k is (unary_answer op z)
    unary_shown_as op v _ =
        raised r (value r) h k is (UnsupportedOne (unary_method op) (type_name h v))
        (UnsupportedOne (unary_method op) (type_name k (value r v)))
        (ap (UnsupportedOne (unary_method op)) (type_as r h k is v))

    pub unary_as : (op : UnaryOperator) (v : Val) → Same (unary h op v) (unary k op (value r v))
    unary_as op v =
        subst (λ s. Same (unary h op v) (unary_shown k op (value r v) s)) (sym (seen r h k is v))
        (unary_shown_as op v (shown h v))

    pub not_as : (v : Val) → Same (unary_not h v) (unary_not k (value r v))
    not_as v =
        given r (value r) h k is (Truth (not (truth h v))) (Truth (not (truth k (value r v))))
        (ap (λ b. Truth (not b)) (truth_as r h k is v))

    -- equality and order
    pub eq_as : (a b : Val) → Same (op_eq h a b) (op_eq k (value r a) (value r b))
    eq_as a b =
        walked_same r (value r) h k is (equal h a b) (equal k (value r a) (value r b)) (λ same. gives (Truth same) h)
        (λ same. gives (Truth same) k) (equal_as r h k is a b)
        (λ same. given r (value r) h k is (Truth same) (Truth same) refl)

    pub ne_as : (a b : Val) → Same (op_ne h a b) (op_ne k (value r a) (value r b))
    ne_as a b =
        walked_same r (value r) h k is (equal h a b) (equal k (value r a) (value r b))
        (λ same. gives (Truth (not same)) h) (λ same. gives (Truth (not same)) k) (equal_as r h k is a b)
        (λ same. given r (value r) h k is (Truth (not same)) (Truth (not same)) refl)

    module _ (eh ek : Val → Val → Walk Bool) (oh ok : Val → Val → Walk (Result Ordering Unordered))
        (same : (a b : Val) → ek (value r a) (value r b) ≡ eh a b)
        (ih : (a b : Val) → ok (value r a) (value r b) ≡ walk_map (order_as r) (oh a b)) where
      ordered : (xs ys : List Val) → order_items ek ok (map (value r) xs) (map (value r) ys) ≡ walk_map (order_as r)
          (order_items eh oh xs ys)
      ordered [] ys = ap (λ n. answers (Ok (nat_cmp 0 n))) (length-map ys (value r))
      ordered (x ∷ xs) [] = ap (λ n. answers (Ok (nat_cmp (suc n) 0))) (length-map xs (value r))
      ordered (x ∷ xs) (y ∷ ys) =
          then_same (order_as r) (eh x y) (ek (value r x) (value r y))
          (elim [ true ↦ order_items eh oh xs ys | false ↦ oh x y ])
          (elim [
            | true ↦ order_items ek ok (map (value r) xs) (map (value r) ys)
            | false ↦ ok (value r x)
                (value r y)
          ])
          (same x y) (chosen (ordered xs ys))
        where
          chosen : order_items ek ok (map (value r) xs) (map (value r) ys) ≡ walk_map (order_as r)
              (order_items eh oh xs ys) → (b : Bool)
              → elim b as (λ _. Walk (Result Ordering Unordered)) [
                | true ↦ order_items ek ok (map (value r) xs) (map (value r) ys)
                | false ↦ ok (value r x)
                    (value r y)
              ] ≡ walk_map (order_as r) (elim b as (λ _. Walk (Result Ordering Unordered))
              [ true ↦ order_items eh oh xs ys | false ↦ oh x y ])
          chosen rest true = rest
          chosen rest false = ih x y

      shown_ordered : (a b : Val) (s t : Shown)
          → order_shown ek ok (value r a) (value r b) (shown_as r s) (shown_as r t) ≡ walk_map (order_as r)
          (order_shown eh oh a b s t)
      shown_ordered a b (Number x) (Number y) = refl
      shown_ordered a b (Text s) (Text t) = refl
      shown_ordered a b (Tuple xs) (Tuple ys) = ordered xs ys
      shown_ordered a b (Items xs) (Items ys) = ordered xs ys
      shown_ordered a b _ _ = refl

    order_in : (depth : ℕ) (a b : Val)
        → order_within k depth (value r a) (value r b) ≡ walk_map (order_as r) (order_within h depth a b)
    order_in zero a b = refl
    order_in (suc depth) a b =
        ap visit (
        ap (λ s. order_shown (equal_within k depth) (order_within k depth) (value r a) (value r b) s
        (shown k (value r b))) (seen r h k is a)
        ∙ ap (λ t. order_shown (equal_within k depth) (order_within k depth) (value r a) (value r b)
        (shown_as r (shown h a)) t) (seen r h k is b)
        ∙ shown_ordered (equal_within h depth) (equal_within k depth) (order_within h depth) (order_within k depth)
        (within r h k is depth) (order_in depth) a b (shown h a) (shown h b))

    pub order_same : (a b : Val) → order k (value r a) (value r b) ≡ walk_map (order_as r) (order h a b)
    unfolding order
    order_same a b = order_in MAX_WALK_DEPTH a b

    order_given : (sign : Sign) (x : Result Ordering Unordered)
        → Same (gives_order h sign x) (gives_order k sign (order_as r x))
    order_given sign (Ok o) = given r (value r) h k is (Truth (has_sign sign o)) (Truth (has_sign sign o)) refl
    order_given sign (Err e) = unsupported_as r h k is (value r) (sign_method sign) e.left e.right

    pub op_order_as : (sign : Sign) (a b : Val) → Same (op_order h sign a b) (op_order k sign (value r a) (value r b))
    op_order_as sign a b =
        walked r (order_as r) (value r) h k is (order h a b) (order k (value r a) (value r b)) (gives_order h sign)
        (gives_order k sign) (order_same a b) (order_given sign)

    -- identity
    one_shown : (a b : Val) (s t : Shown)
        → is_one_shown (value r a) (value r b) (shown_as r s) (shown_as r t) ≡ is_one_shown a b s t
    one_shown a b (Text s) (Text t) = refl
    one_shown a b _ _ = same_as r h k is a b

    one_seen : (a b : Val) → is_one_shown (value r a) (value r b) (shown k (value r a))
        (shown k (value r b)) ≡ is_one_shown a b (shown h a) (shown h b)
    one_seen a b =
        ap (λ s. is_one_shown (value r a) (value r b) s (shown k (value r b))) (seen r h k is a)
        ∙ ap (λ t. is_one_shown (value r a) (value r b) (shown_as r (shown h a)) t) (seen r h k is b)
        ∙ one_shown a b (shown h a) (shown h b)

    mutual
      one_as : (a b : Val) → is_one k (value r a) (value r b) ≡ is_one h a b
      one_as (Truth true) (Truth b) = refl
      one_as (Truth false) (Truth b) = refl
      one_as (Int y) (Int z) = refl
      one_as (Fixed xs) (Fixed ys) = ones_as xs ys
      one_as Empty Empty = refl
      one_as a b = one_seen a b

      ones_as : (xs ys : Vals) → are_one k (items_as r xs) (items_as r ys) ≡ are_one h xs ys
      ones_as (Only v) (Only w) = one_as v w
      ones_as (Then v vs) (Then w ws) =
          ap (λ b. b && are_one k (items_as r vs) (items_as r ws)) (one_as v w) ∙ ap (λ b. is_one h v w && b)
          (ones_as vs ws)
      ones_as _ _ = refl

    pub is_as : (a b : Val) → Same (op_is h a b) (op_is k (value r a) (value r b))
    is_as a b =
        given r (value r) h k is (Truth (is_one h a b)) (Truth (is_one k (value r a) (value r b)))
        (ap Truth (one_as a b))

    -- membership
    contains_as : (v : Val) (items : List Val)
        → contains_equal k (value r v) (map (value r) items) ≡ contains_equal h v items
    contains_as v [] = refl
    contains_as v (item ∷ items) =
        then_equal (equal h item v) (equal k (value r item) (value r v))
        (elim [ true ↦ answers true | false ↦ contains_equal h v items ])
        (elim [ true ↦ answers true | false ↦ contains_equal k (value r v) (map (value r) items) ])
        (equal_as r h k is item v) (chosen (contains_as v items))
      where
        chosen : contains_equal k (value r v) (map (value r) items) ≡ contains_equal h v items → (b : Bool)
            → elim b as (λ _. Walk Bool) [
              | true ↦ answers true
              | false ↦ contains_equal k (value r v)
                  (map (value r) items)
            ] ≡ elim b as (λ _. Walk Bool)
            [ true ↦ answers true | false ↦ contains_equal h v items ]
        chosen rest true = refl
        chosen rest false = rest

    among : (v : Val) (items : List Val)
        → Same (after_walk h (contains_equal h v items) (λ found. gives (Truth found) h))
        (after_walk k (contains_equal k (value r v) (map (value r) items)) (λ found. gives (Truth found) k))
    among v items =
        walked_same r (value r) h k is (contains_equal h v items) (contains_equal k (value r v) (map (value r) items))
        (λ found. gives (Truth found) h) (λ found. gives (Truth found) k) (contains_as v items)
        (λ found. given r (value r) h k is (Truth found) (Truth found) refl)

    contains_shown_as : (v container : Val) (s t : Shown)
        → Same (contains_shown h v container s t) (contains_shown k (value r v) (value r container) (shown_as r s)
        (shown_as r t))
    contains_shown_as v container it (Tuple items) = among v items
    contains_shown_as v container it (Items items) = among v items
    contains_shown_as v container it (Pairs pairs) =
        keyed r h k is (value r) v (gives (Truth (is_some (value_of_key h pairs v))) h)
        (gives (Truth (is_some (value_of_key k (map (pair r) pairs) (value r v)))) k)
        (given r (value r) h k is (Truth (is_some (value_of_key h pairs v)))
        (Truth (is_some (value_of_key k (map (pair r) pairs) (value r v))))
        (ap (λ z. Truth (is_some z)) (value_of_key_as r h k is pairs v) ∙ ap Truth
        (is_some_as (value r) (value_of_key h pairs v))))
    contains_shown_as v container (Number z) (Range start stop step) =
        given r (value r) h k is (Truth (is_in_range z start stop step)) (Truth (is_in_range z start stop step)) refl
    contains_shown_as v container it (Range start stop step) = given r (value r) h k is (Truth false) (Truth false)
        refl
    contains_shown_as v container (Text part) (Text bytes) =
        given r (value r) h k is (Truth (is_part part bytes)) (Truth (is_part part bytes)) refl
    contains_shown_as v container it _ = unsupported_as r h k is (value r) (codes "__contains__") container v

    pub op_contains_as : (v container : Val)
        → Same (op_contains h v container) (op_contains k (value r v) (value r container))
    op_contains_as v container =
        subst (λ s. Same (op_contains h v container) (contains_shown k (value r v) (value r container) s
        (shown k (value r container)))) (sym (seen r h k is v))
        (subst (λ t. Same (op_contains h v container) (contains_shown k (value r v) (value r container)
        (shown_as r (shown h v)) t)) (sym (seen r h k is container))
        (contains_shown_as v container (shown h v) (shown h container)))

    -- handlers
    pub exception_kind_as : (v : Val) → exception_kind k (value r v) ≡ exception_kind h v
    exception_kind_as (At n) = ap raised_kind (is.objects n) ∙ kind_object (object h.objects n)
    exception_kind_as _ = refl

    pub all_members_as : {A : Type 0} (f : Val → Option A) → ((v : Val) → f (value r v) ≡ f v) → (v : Val)
        → all_of f (members (value r v) (shown k (value r v))) ≡ all_of f (members v (shown h v))
    all_members_as f e v =
        ap (λ s. all_of f (members (value r v) s)) (seen r h k is v) ∙ ap (all_of f) (members_as v (shown h v))
        ∙ all_of_as f e (members v (shown h v))

    matched : (x : Option Kind) (kinds : Option (List Kind)) → Same (match_kinds h x kinds) (match_kinds k x kinds)
    matched (Some kind) (Some kinds) =
        given r (value r) h k is (Truth (list_any (is_under kind) kinds)) (Truth (list_any (is_under kind) kinds))
        refl
    matched _ _ = raised r (value r) h k is UnsupportedMatch UnsupportedMatch refl

    pub match_as : (e kinds : Val) → Same (op_match h e kinds) (op_match k (value r e) (value r kinds))
    match_as e kinds =
        subst (λ x. Same (op_match h e kinds) (match_kinds k x
        (all_of named_kind (members (value r kinds) (shown k (value r kinds)))))) (sym (exception_kind_as e))
        (subst (λ x. Same (op_match h e kinds) (match_kinds k (exception_kind h e) x))
        (sym (all_members_as named_kind named_kind_as kinds))
        (matched (exception_kind h e) (all_of named_kind (members kinds (shown h kinds)))))

    -- lists that take the items of an iterable
    extended : (n m : ℕ) → m ≡ r.to n → (v : Val) (items : List Val)
        → Same (extended_by h n v items) (extended_by k m (value r v) (map (value r) items))
    extended n m e v items =
        let here : List Val = items_at h n in
        let there : List Val = items_at k m in
        let found : there ≡ map (value r) here = items_of_object r h k is n m e in
        let total : ℕ = length (here ++ items) in
        let total' : ℕ = length (there ++ map (value r) items) in
        let long : total' ≡ total =
        ap (λ z. length (z ++ map (value r) items)) found ∙ ap length (sym (map-append (value r) here items))
        ∙ length-map (here ++ items) (value r) in
        let at : IsRenamed r (with_list_room h n total) (with_list_room k m total') = grown_room_of r h k is n m e
        total total' long in
        visited r (value r) (length items) (length (map (value r) items)) (length-map items (value r))
        (cond (does_fit h (list_growth h n total) 0) (followed_by
        (kept_items (with_list_room h n total) items (shown h v))
        (λ kept behind. gives (At n) (with_list behind n (here ++ kept)))) (is_full h (list_growth h n total) 0))
        (cond (does_fit k (list_growth k m total') 0) (followed_by
        (kept_items (with_list_room k m total') (map (value r) items) (shown k (value r v)))
        (λ kept behind. gives (At m) (with_list behind m (there ++ kept))))
        (is_full k (list_growth k m total') 0))
        (fitting r (value r) h k is (list_growth h n total) 0 (list_growth k m total') 0
        (list_growth_as r h k is n m e total total' long) refl
        (followed_by (kept_items (with_list_room h n total) items (shown h v))
        (λ kept behind. gives (At n) (with_list behind n (here ++ kept))))
        (followed_by (kept_items (with_list_room k m total') (map (value r) items) (shown k (value r v)))
        (λ kept behind. gives (At m) (with_list behind m (there ++ kept))))
        (followed r (map (value r)) (value r) (kept_items (with_list_room h n total) items (shown h v))
        (kept_items (with_list_room k m total') (map (value r) items) (shown k (value r v)))
        (λ kept behind. gives (At n) (with_list behind n (here ++ kept)))
        (λ kept behind. gives (At m) (with_list behind m (there ++ kept)))
        (kept_as r h k is (with_list_room h n total) (with_list_room k m total') at items v)
        (λ kept i j was. given r (value r) (with_list i n (here ++ kept))
        (with_list j m (there ++ map (value r) kept))
        (put_list r i j was n m e (here ++ kept) (there ++ map (value r) kept)
        (ap (λ z. z ++ map (value r) kept) found ∙ sym (map-append (value r) here kept)))
        (At n) (At m) (ap At e))))

    pub extend_as : (n m : ℕ) → m ≡ r.to n → (v : Val) → Same (extend h n v) (extend k m (value r v))
    extend_as n m e v =
        iterating_as r h k is (value r) v (extended_by h n v) (extended_by k m (value r v))
        (λ items. extended n m e v items)

    in_place_shown_as : (op : Operator) (a b : Val) (s : Shown)
        → Same (in_place_shown h op a b s) (in_place_shown k op (value r a) (value r b) (shown_as r s))
    in_place_shown_as Add (At n) b (Items items) = extend_as n (r.to n) refl b
    in_place_shown_as op a b _ = binary_as r h k is op a b

    pub in_place_as : (op : Operator) (a b : Val) → Same (in_place h op a b) (in_place k op (value r a) (value r b))
    in_place_as op a b =
        subst (λ s. Same (in_place h op a b) (in_place_shown k op (value r a) (value r b) s)) (sym (seen r h k is a))
        (in_place_shown_as op a b (shown h a))
