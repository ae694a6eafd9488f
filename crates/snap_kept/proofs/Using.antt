-- Iterables, operators, indexes and attributes give plain values of plain ones.
use Rattle.std.proofs.Common.{◌≡◌, ℕ, List, [], ◌∷◌, ◌++◌, map, length, set, Bool, true, false, cond, Option, Some, None, Result, Ok, Err, inl, refl, sym, ap, ◌∙◌, subst}
use Rattle.std.specs.Prelude.{IsSome, is_some, slice_index, nat_lt, ℤ, bytes_eq, codes}
use Rattle.std.specs.List.{AllByRecursion as Each, repeat, remove, range_with_len}
use Rattle.std.specs.Option.{option_map}
use Rattle.std.proofs.lemmas.List.{length-map}
use Rattle.bc_progress.specs.bc_machine.Library.{Library}
use Rattle.bc_progress.specs.mpy_base.declared.builtin.Builtin.{Builtin}
use Rattle.bc_progress.specs.mpy_base.declared.builtin.Builtin.TheVariants as builtins
use Rattle.bc_progress.specs.mpy_base.World.{ListObject, TupleObject, TextObject, DictObject, FunctionObject, ExceptionObject, MethodObject, RangeObject, ModuleObject, AList, ADict, object, kind_of, IsA, names_of, items_of, pairs_of, items_at, pairs_at, room_at, with_list, with_dict}
use Rattle.bc_progress.specs.mpy_base.Weights.{does_fit, with_made, list_growth, dict_growth, grown_room, with_list_room, with_pairs}
use Rattle.bc_progress.specs.mpy_base.Val.{Val, Nil, Truth, Int, Str, Fixed, Empty, Built, At}
use Rattle.bc_progress.specs.py_values.Shown.{PlainHeap, Shown, Nothing, Number, Text, Tuple, Items, Pairs, Range, Other, range_len, at_least_zero, shown, shown_object}
use Rattle.bc_progress.specs.py_values.Keys.{key_of, value_of_key, with_key, without_key}
use Rattle.bc_progress.specs.py_primitives.Builtins.{named, port_calls}
use Rattle.bc_progress.specs.py_primitives.Outcome.{Outcome, gives, is_full, followed_by, making}
use Rattle.bc_progress.specs.py_primitives.Iterables.{range_number, range_numbers, letter, shown_items, items_in, shown_item, item_of, over_items, iterating, use_iter, kept_items, length_of, place_at}
use Rattle.bc_progress.specs.py_primitives.Operators.{Operator, Add, Multiply, number_answer, gives_number, binary_shown, binary, extended_by, extend, in_place_shown, in_place, with_key_of}
use Rattle.bc_progress.specs.py_primitives.Uses.{at_found, at_shown, at_place, at_key, of_key, shown_at, get_item, put_pair, set_shown, set_item, delete_shown, delete_item, Attribute, Found, Method, Absent, found_value, found_method, object_attribute, attribute, gives_attribute, get_attr, set_in, set_attr, unpack_items, unpack}
use Rattle.bc_progress.proofs.Knowing.{method_found}
use Rattle.bc_progress.specs.Known.{HasMethod}
use Rattle.bc_progress.specs.py_values.declared.small_int.NumFault.{NumFault}
use Rattle.snap_kept.specs.Texts.{is_method, IsName}
use Rattle.snap_kept.specs.Values.{IsNamespace, IsPlain, IsPair, IsNamed, IsDict, AreFine}
use Rattle.snap_kept.proofs.Onward.{Obj, kind_on, plain_on, plains_on, method_on}
use Rattle.snap_kept.proofs.Changes.{Comes, comes_same, comes_on, set_comes, grown_comes, list_same, list_grown, dict_same, dict_grown, is_there, made_onward, ShownIn, shown_in, namespace_dict, names_dict}
use Rattle.snap_kept.proofs.Lists.{each_append, each_remove, each_set, each_repeat, each_map, each_or_nil, each_with, each_without, differ_with, differ_without, each_value}
use Rattle.snap_kept.proofs.Making.{Plains, Counted, IsIn, either, followed, answer_map, onto, making_in, text_in, texts_in, tuple_in, list_in}

-- what is shown of an object
list_shown : (o : Obj) (items : List Val) → shown_object o ≡ Items items → kind_of o ≡ Some AList
list_shown None items e = absurd cc
list_shown (Some (ListObject xs room)) items e = refl
list_shown (Some (TupleObject xs)) items e = absurd cc
list_shown (Some (TextObject bytes)) items e = absurd cc
list_shown (Some (DictObject pairs room)) items e = absurd cc
list_shown (Some (FunctionObject name module_name code names defaults)) items e = absurd cc
list_shown (Some (ExceptionObject kind args file line name)) items e = absurd cc
list_shown (Some (MethodObject v method)) items e = absurd cc
list_shown (Some (RangeObject start stop step)) items e = absurd cc
list_shown (Some (ModuleObject name names)) items e = absurd cc

dict_shown : (o : Obj) (pairs : List (Val × Val)) → shown_object o ≡ Pairs pairs → kind_of o ≡ Some ADict
dict_shown None pairs e = absurd cc
dict_shown (Some (ListObject xs room)) pairs e = absurd cc
dict_shown (Some (TupleObject xs)) pairs e = absurd cc
dict_shown (Some (TextObject bytes)) pairs e = absurd cc
dict_shown (Some (DictObject ps room)) pairs e = refl
dict_shown (Some (FunctionObject name module_name code names defaults)) pairs e = absurd cc
dict_shown (Some (ExceptionObject kind args file line name)) pairs e = absurd cc
dict_shown (Some (MethodObject v method)) pairs e = absurd cc
dict_shown (Some (RangeObject start stop step)) pairs e = absurd cc
dict_shown (Some (ModuleObject name names)) pairs e = absurd cc

pub shown_list : (h : PlainHeap) (n : ℕ) (items : List Val) → shown h (At n) ≡ Items items → IsA h.objects AList n
shown_list h n items e = list_shown (object h.objects n) items e

pub shown_dict : (h : PlainHeap) (n : ℕ) (pairs : List (Val × Val)) → shown h (At n) ≡ Pairs pairs → IsA h.objects ADict n
shown_dict h n pairs e = dict_shown (object h.objects n) pairs e

-- the pairs of a dict
pairs_shown : (o : Obj) (pairs : List (Val × Val)) → shown_object o ≡ Pairs pairs → pairs_of o ≡ pairs
pairs_shown None pairs e = absurd cc
pairs_shown (Some (ListObject xs room)) pairs e = absurd cc
pairs_shown (Some (TupleObject xs)) pairs e = absurd cc
pairs_shown (Some (TextObject bytes)) pairs e = absurd cc
pairs_shown (Some (DictObject ps room)) pairs e = cc
pairs_shown (Some (FunctionObject name module_name code names defaults)) pairs e = absurd cc
pairs_shown (Some (ExceptionObject kind args file line name)) pairs e = absurd cc
pairs_shown (Some (MethodObject v method)) pairs e = absurd cc
pairs_shown (Some (RangeObject start stop step)) pairs e = absurd cc
pairs_shown (Some (ModuleObject name names)) pairs e = absurd cc

-- a built-in that is found by its name is one of these
pub named_one : (entries : List (List ℕ × Builtin)) (name : List ℕ) (b : Builtin) → Each (λ e. is_method (e.1) ≡ false) entries → named entries name ≡ Some b → is_method b ≡ false
named_one [] name b p e = absurd cc
named_one (entry ∷ entries) name b p e = by (bytes_eq (entry.0) name) e (named_one entries name b (p.1))
  where
    by : (t : Bool) → cond t (Some (entry.1)) (named entries name) ≡ Some b → (named entries name ≡ Some b → is_method b ≡ false) → is_method b ≡ false
    by true q rest = let same_one : entry.1 ≡ b = cc in subst (λ z. is_method z ≡ false) same_one (p.0)
    by false q rest = rest q

module _ (library : Library) where
  -- the pairs and the items that an object has
  pub dict_is : (h : PlainHeap) (n : ℕ) (o : Obj) → AreFine library h → object h.objects n ≡ o → kind_of o ≡ Some ADict → IsDict library h n (pairs_of o)
  dict_is h n None f q e = absurd cc
  dict_is h n (Some (ListObject xs room)) f q e = absurd cc
  dict_is h n (Some (TupleObject xs)) f q e = absurd cc
  dict_is h n (Some (TextObject bytes)) f q e = absurd cc
  dict_is h n (Some (DictObject ps room)) f q e = f.fine n (DictObject ps room) q
  dict_is h n (Some (FunctionObject name module_name code names defaults)) f q e = absurd cc
  dict_is h n (Some (ExceptionObject kind args file line name)) f q e = absurd cc
  dict_is h n (Some (MethodObject v method)) f q e = absurd cc
  dict_is h n (Some (RangeObject start stop step)) f q e = absurd cc
  dict_is h n (Some (ModuleObject name names)) f q e = absurd cc

  pub dict_at : (h : PlainHeap) (n : ℕ) → AreFine library h → IsA h.objects ADict n → IsDict library h n (pairs_at h n)
  dict_at h n f e = dict_is h n (object h.objects n) f refl e

  items_is : (h : PlainHeap) (n : ℕ) (o : Obj) → AreFine library h → object h.objects n ≡ o → Plains library h (items_of o)
  items_is h n None f q = tt
  items_is h n (Some (ListObject xs room)) f q = f.fine n (ListObject xs room) q
  items_is h n (Some (TupleObject xs)) f q = f.fine n (TupleObject xs) q
  items_is h n (Some (TextObject bytes)) f q = tt
  items_is h n (Some (DictObject ps room)) f q = tt
  items_is h n (Some (FunctionObject name module_name code names defaults)) f q = tt
  items_is h n (Some (ExceptionObject kind args file line name)) f q = tt
  items_is h n (Some (MethodObject v method)) f q = tt
  items_is h n (Some (RangeObject start stop step)) f q = tt
  items_is h n (Some (ModuleObject name names)) f q = tt

  pub items_plain : (h : PlainHeap) (n : ℕ) → AreFine library h → Plains library h (items_at h n)
  items_plain h n f = items_is h n (object h.objects n) f refl

  pub keys_plain : (h : PlainHeap) (pairs : List (Val × Val)) → Each (IsPair library h) pairs → Plains library h (map (λ pair. pair.0) pairs)
  keys_plain h pairs p = each_map (IsPair library h) (IsPlain library h) (λ pair. pair.0) (λ x q. q.0) pairs p

  pub values_plain : (h : PlainHeap) (pairs : List (Val × Val)) → Each (IsPair library h) pairs → Plains library h (map (λ pair. pair.1) pairs)
  values_plain h pairs p = each_map (IsPair library h) (IsPlain library h) (λ pair. pair.1) (λ x q. q.2) pairs p

  pub value_plain : (h : PlainHeap) (pairs : List (Val × Val)) (key v : Val) → Each (IsPair library h) pairs → value_of_key h pairs key ≡ Some v → IsPlain library h v
  value_plain h pairs key v p e = each_value h (IsPlain library h) pairs key v (seconds pairs p) e
    where
      seconds : (ps : List (Val × Val)) → Each (IsPair library h) ps → Each (λ p. IsPlain library h (p.1)) ps
      seconds [] q = tt
      seconds (x ∷ ps) q = ((q.0).2, seconds ps (q.1))

  numbers_plain : (h : PlainHeap) (start step : ℤ) (places : List ℕ) → Plains library h (map (λ at. Int (range_number start step at)) places)
  numbers_plain h start step [] = tt
  numbers_plain h start step (at ∷ places) = (tt, numbers_plain h start step places)

  -- iterables
  -- =========

  -- the items as they are kept
  pub kept_in : (h k : PlainHeap) (items : List Val) (s : Shown) → Comes library h k → ShownIn library h s → shown_items s ≡ Some items → IsIn library (Counted library (length items)) k (kept_items k items s)
  kept_in h k items (Text bytes) c p e =
      let letters : List (List ℕ) = map (λ byte. byte ∷ []) bytes in
      let same : map letter bytes ≡ items = cc in
      let long : length letters ≡ length items = length-map bytes (λ byte. byte ∷ []) ∙ sym (length-map bytes letter) ∙ ap length same in
      subst (λ n. IsIn library (Counted library n) k (kept_items k items (Text bytes))) long (texts_in library k letters c.fine)
  kept_in h k items (Tuple xs) c p e = let same : xs ≡ items = cc in (comes_same library k c.fine, (plains_on h k c.onward library items (subst (Plains library h) same p), refl))
  kept_in h k items (Items xs) c p e = let same : xs ≡ items = cc in (comes_same library k c.fine, (plains_on h k c.onward library items (subst (Plains library h) same p), refl))
  kept_in h k items (Pairs pairs) c p e = let same : map (λ pair. pair.0) pairs ≡ items = cc in (comes_same library k c.fine, (plains_on h k c.onward library items (subst (Plains library h) same (keys_plain h pairs p)), refl))
  kept_in h k items (Range start stop step) c p e = let same : range_numbers start stop step ≡ items = cc in (comes_same library k c.fine, (subst (Plains library k) same (numbers_plain k start step (range_with_len 0 (range_len start stop step))), refl))
  kept_in h k items Nothing c p e = absurd cc
  kept_in h k items (Number z) c p e = absurd cc
  kept_in h k items Other c p e = absurd cc

  pub kept_plain : (h k : PlainHeap) (items : List Val) (s : Shown) → Comes library h k → ShownIn library h s → shown_items s ≡ Some items → IsIn library (Plains library) k (kept_items k items s)
  kept_plain h k items s c p e = answer_map library (Counted library (length items)) (Plains library) k (kept_items k items s).heap (kept_items k items s).answer (λ a d q. q.0) (kept_in h k items s c p e)

  over_in : {A : Type 0} (In : PlainHeap → A → Type 0) (h : PlainHeap) (v : Val) (o : Option (List Val)) (next : List Val → Outcome A) → AreFine library h → ((items : List Val) → o ≡ Some items → IsIn library In h (next items)) → IsIn library In h (over_items h v o next)
  over_in In h v (Some items) next f on = on items refl
  over_in In h v None next f on = (comes_same library h f, tt)

  pub iterating_in : {A : Type 0} (In : PlainHeap → A → Type 0) (h : PlainHeap) (v : Val) (next : List Val → Outcome A) → AreFine library h → ((items : List Val) → items_in h v ≡ Some items → IsIn library In h (next items)) → IsIn library In h (iterating h v next)
  iterating_in In h v next f on = over_in In h v (items_in h v) next f on

  module _ (h : PlainHeap) (f : AreFine library h) where
    abbrev pub V : Outcome Val → Type 0
    V o = IsIn library (IsPlain library) h o

    -- None, a number or a fault that holds no value
    pub same : Comes library h h × Unit {0}
    same = (comes_same library h f, tt)

    item_by : (at : ℕ) (s : Shown) → ShownIn library h s → V (shown_item h at s)
    item_by at (Text bytes) p = text_in library h (slice_index bytes at ∷ []) f
    item_by at (Tuple items) p = (comes_same library h f, each_or_nil (IsPlain library h) tt items at p)
    item_by at (Items items) p = (comes_same library h f, each_or_nil (IsPlain library h) tt items at p)
    item_by at (Pairs pairs) p = (comes_same library h f, each_or_nil (IsPlain library h) tt (map (λ pair. pair.0) pairs) at (keys_plain h pairs p))
    item_by at (Range start stop step) p = same
    item_by at _ p = same

    pub item_in : (v : Val) (at : ℕ) → IsPlain library h v → V (item_of h v at)
    item_in v at p = item_by at (shown h v) (shown_in library h v f p)

    pub iter_in : (v : Val) → IsPlain library h v → IsIn library (λ k u. (u ≡ v) × IsSome (items_in h v)) h (use_iter h v)
    iter_in v p = iterating_in (λ k u. (u ≡ v) × IsSome (items_in h v)) h v (λ items. gives v h) f (λ items e. (comes_same library h f, (refl, ap is_some e)))

    pub number_in : (r : Result ℤ NumFault) → V (gives_number h r)
    number_in (Ok z) = same
    number_in (Err fault) = same

    -- operators
    -- =========

    binary_by : (op : Operator) (a b : Val) (s t : Shown) → ShownIn library h s → ShownIn library h t → V (binary_shown h op a b s t)
    binary_by op a b (Number x) (Number y) p q = number_in (number_answer op x y)
    binary_by Add a b (Text s) (Text t) p q = text_in library h (s ++ t) f
    binary_by Add a b (Tuple xs) (Tuple ys) p q = tuple_in library h (xs ++ ys) f (each_append (IsPlain library h) xs ys p q)
    binary_by Add a b (Items xs) (Items ys) p q = list_in library h (xs ++ ys) f (each_append (IsPlain library h) xs ys p q)
    binary_by Multiply a b (Text s) (Number n) p q = text_in library h (repeat (at_least_zero n) s) f
    binary_by Multiply a b (Number n) (Text s) p q = text_in library h (repeat (at_least_zero n) s) f
    binary_by Multiply a b (Tuple xs) (Number n) p q = tuple_in library h (repeat (at_least_zero n) xs) f (each_repeat (IsPlain library h) (at_least_zero n) xs p)
    binary_by Multiply a b (Number n) (Tuple xs) p q = tuple_in library h (repeat (at_least_zero n) xs) f (each_repeat (IsPlain library h) (at_least_zero n) xs q)
    binary_by Multiply a b (Items xs) (Number n) p q = list_in library h (repeat (at_least_zero n) xs) f (each_repeat (IsPlain library h) (at_least_zero n) xs p)
    binary_by Multiply a b (Number n) (Items xs) p q = list_in library h (repeat (at_least_zero n) xs) f (each_repeat (IsPlain library h) (at_least_zero n) xs q)
    binary_by op a b _ _ p q = same

    pub binary_in : (op : Operator) (a b : Val) → IsPlain library h a → IsPlain library h b → V (binary h op a b)
    binary_in op a b p q = binary_by op a b (shown h a) (shown h b) (shown_in library h a f p) (shown_in library h b f q)

    extended : (n : ℕ) (v : Val) (items : List Val) → IsA h.objects AList n → IsPlain library h (At n) → IsPlain library h v → items_in h v ≡ Some items → V (extended_by h n v items)
    extended n v items is p q e =
        let total = length (items_at h n ++ items) in
        let roomy = with_list_room h n total in
        let c : Comes library h roomy = grown_comes library h n (list_growth h n total) (ListObject (items_at h n) (grown_room h n total)) f (is_there library h n AList is) (list_grown library h n (items_at h n) total is) (items_plain h n f) in
        let kept = kept_items roomy items (shown h v) in
        either library (IsPlain library) h (does_fit h (list_growth h n total) 0) (followed_by kept (λ xs behind. gives (At n) (with_list behind n (items_at h n ++ xs)))) (is_full h (list_growth h n total) 0)
        (λ t. onto library (IsPlain library) h roomy (followed_by kept (λ xs behind. gives (At n) (with_list behind n (items_at h n ++ xs)))).heap (followed_by kept (λ xs behind. gives (At n) (with_list behind n (items_at h n ++ xs)))).answer c
        (followed library (Plains library) (IsPlain library) roomy kept (λ xs behind. gives (At n) (with_list behind n (items_at h n ++ xs))) (kept_plain h roomy items (shown h v) c (shown_in library h v f q) e) (λ xs d r.
        let k = kept.heap in
        let all = comes_on library h roomy k c d in
        let its : IsA k.objects AList n = kind_on h k all.onward n AList is in
        let last = set_comes library k n (ListObject (items_at h n ++ xs) (room_at k n)) d.fine (is_there library k n AList its) (list_same library k n (items_at h n ++ xs) its) (each_append (IsPlain library k) (items_at h n) xs (plains_on h k all.onward library (items_at h n) (items_plain h n f)) r) in
        (last, plain_on k (with_list k n (items_at h n ++ xs)) last.onward library (At n) (plain_on h k all.onward library (At n) p)))))
        tt

    pub extend_in : (n : ℕ) (v : Val) → IsA h.objects AList n → IsPlain library h (At n) → IsPlain library h v → V (extend h n v)
    extend_in n v is p q = iterating_in (IsPlain library) h v (extended_by h n v) f (λ items e. extended n v items is p q e)

    in_place_by : (op : Operator) (a b : Val) (s : Shown) → shown h a ≡ s → IsPlain library h a → IsPlain library h b → V (in_place_shown h op a b s)
    in_place_by Add (At n) b (Items items) e p q = extend_in n b (shown_list h n items e) p q
    in_place_by op a b _ e p q = binary_in op a b p q

    pub in_place_in : (op : Operator) (a b : Val) → IsPlain library h a → IsPlain library h b → V (in_place h op a b)
    in_place_in op a b p q = in_place_by op a b (shown h a) refl p q

    -- indexes
    -- =======

    found_in : {A : Type 0} (In : PlainHeap → A → Type 0) (v : Val) (o : Option ℕ) (next : ℕ → Outcome A) → ((at : ℕ) → IsIn library In h (next at)) → IsIn library In h (at_found h v o next)
    found_in In v (Some at) next on = on at
    found_in In v None next on = same

    place_by : {A : Type 0} (In : PlainHeap → A → Type 0) (v index : Val) (s : Shown) (next : ℕ → Outcome A) → ((at : ℕ) → IsIn library In h (next at)) → IsIn library In h (at_shown h v index s next)
    place_by In v index (Number z) next on = found_in In v (place_at (length_of h v) z) next on
    place_by In v index _ next on = same

    pub place_in : (v index : Val) (next : ℕ → Outcome Val) → ((at : ℕ) → V (next at)) → V (at_place h v index next)
    place_in v index next on = place_by (IsPlain library) v index (shown h index) next on

    pub key_in : (key : Val) (o : Outcome Val) → (IsSome (key_of h key) → V o) → V (with_key_of h key o)
    key_in key o p = either library (IsPlain library) h (is_some (key_of h key)) o _ p same

    key_found : (key : Val) (o : Option Val) (next : Val → Outcome Val) → IsPlain library h key → ((v : Val) → o ≡ Some v → V (next v)) → V (at_key h key o next)
    key_found key (Some v) next p on = on v refl
    key_found key None next p on = (comes_same library h f, p)

    pub of_key_in : (pairs : List (Val × Val)) (key : Val) (next : Val → Outcome Val) → IsPlain library h key → ((v : Val) → value_of_key h pairs key ≡ Some v → V (next v)) → V (of_key h pairs key next)
    of_key_in pairs key next p on = key_in key (at_key h key (value_of_key h pairs key) next) (λ some. key_found key (value_of_key h pairs key) next p on)

    get_by : (v index : Val) (s : Shown) → IsPlain library h v → IsPlain library h index → ShownIn library h s → V (shown_at h v index s)
    get_by v index (Pairs pairs) p q r = of_key_in pairs index _ q (λ found e. (comes_same library h f, value_plain h pairs index found r e))
    get_by v index (Text bytes) p q r = place_in v index (item_of h v) (λ at. item_in v at p)
    get_by v index (Tuple items) p q r = place_in v index (item_of h v) (λ at. item_in v at p)
    get_by v index (Items items) p q r = place_in v index (item_of h v) (λ at. item_in v at p)
    get_by v index (Range start stop step) p q r = place_in v index (item_of h v) (λ at. item_in v at p)
    get_by v index _ p q r = same

    pub get_in : (v index : Val) → IsPlain library h v → IsPlain library h index → V (get_item h v index)
    get_in v index p q = get_by v index (shown h v) p q (shown_in library h v f p)

    -- a pair goes into a dict
    pub put_in : (n : ℕ) (key v : Val) → IsA h.objects ADict n → IsPair library h (key, v) → (IsNamespace h n → IsNamed library (key, v)) → V (put_pair h n key v)
    put_in n key v is p own =
        let old = dict_at h n f is in
        let pairs = with_key h (pairs_at h n) key v in
        let new : IsDict library h n pairs = record {
          plain = each_with h (IsPair library h) (pairs_at h n) key v (λ x q. (q.0, q.1, p.2)) p old.plain;
          differ = differ_with h (pairs_at h n) key v (p.1) old.differ;
          named = λ names. each_with h (IsNamed library) (pairs_at h n) key v (λ x q. q) (own names) (old.named names);
        } in
        either library (IsPlain library) h (does_fit h (dict_growth h n (length pairs)) 0) (gives Nil (with_pairs h n pairs)) (is_full h (dict_growth h n (length pairs)) 0)
        (λ t. (grown_comes library h n (dict_growth h n (length pairs)) (DictObject pairs (grown_room h n (length pairs))) f (is_there library h n ADict is) (dict_grown library h n pairs (length pairs) is) new, tt))
        tt

    pub list_comes : (n : ℕ) (items : List Val) → IsA h.objects AList n → Plains library h items → Comes library h (with_list h n items)
    list_comes n items is p = set_comes library h n (ListObject items (room_at h n)) f (is_there library h n AList is) (list_same library h n items is) p

    -- the pair of a key is taken out
    pub dict_comes : (n : ℕ) (key : Val) → IsA h.objects ADict n → Comes library h (with_dict h n (without_key h (pairs_at h n) key))
    dict_comes n key is =
        let old = dict_at h n f is in
        let pairs = without_key h (pairs_at h n) key in
        let new : IsDict library h n pairs = record {
          plain = each_without h (IsPair library h) (pairs_at h n) key old.plain;
          differ = differ_without h (pairs_at h n) key old.differ;
          named = λ names. each_without h (IsNamed library) (pairs_at h n) key (old.named names);
        } in
        set_comes library h n (DictObject pairs (room_at h n)) f (is_there library h n ADict is) (dict_same library h n pairs is) new

    pub dict_without : (n : ℕ) (pairs : List (Val × Val)) (key : Val) → shown h (At n) ≡ Pairs pairs → Comes library h (with_dict h n (without_key h pairs key))
    dict_without n pairs key e = subst (λ z. Comes library h (with_dict h n (without_key h z key))) (pairs_shown (object h.objects n) pairs e) (dict_comes n key (shown_dict h n pairs e))

    set_by : (o index v : Val) (s : Shown) → shown h o ≡ s → IsPlain library h o → IsPlain library h index → IsPlain library h v → ShownIn library h s → V (set_shown h o index v s)
    set_by (At n) index v (Pairs pairs) e p q r z = key_in index (put_pair h n index v) (λ some. put_in n index v (shown_dict h n pairs e) (q, some, r) (λ names. absurd (p.1 names)))
    set_by (At n) index v (Items items) e p q r z = place_in (At n) index _ (λ at. (list_comes n (set items at v) (shown_list h n items e) (each_set (IsPlain library h) items at v z r), tt))
    set_by o index v _ e p q r z = same

    pub set_in_item : (o index v : Val) → IsPlain library h o → IsPlain library h index → IsPlain library h v → V (set_item h o index v)
    set_in_item o index v p q r = set_by o index v (shown h o) refl p q r (shown_in library h o f p)

    delete_by : (o index : Val) (s : Shown) → shown h o ≡ s → IsPlain library h index → ShownIn library h s → V (delete_shown h o index s)
    delete_by (At n) index (Pairs pairs) e q z = of_key_in pairs index _ q (λ found t. (dict_without n pairs index e, tt))
    delete_by (At n) index (Items items) e q z = place_in (At n) index _ (λ at. (list_comes n (remove items at) (shown_list h n items e) (each_remove (IsPlain library h) items at z), tt))
    delete_by o index _ e q z = same

    pub delete_in : (o index : Val) → IsPlain library h o → IsPlain library h index → V (delete_item h o index)
    delete_in o index p q = delete_by o index (shown h o) refl q (shown_in library h o f p)

    -- attributes
    -- ==========

    -- what is found is plain, and a method that is found is one of its object's type
    abbrev pub AttributeIn : Val → Attribute → Type 0
    AttributeIn v (Found u) = IsPlain library h u
    AttributeIn v (Method m) = HasMethod h.objects v m
    AttributeIn v Absent = Unit {0}

    no_value : (o : Option Builtin) (u : Val) → found_method o ≡ Found u → ⊥
    no_value (Some m) u e = cc
    no_value None u e = cc

    value_is : (o : Option Val) (u : Val) → found_value o ≡ Found u → o ≡ Some u
    value_is (Some v) u e = cc
    value_is None u e = absurd cc

    args_is : (b : Bool) (args u : Val) → cond b (Found args) Absent ≡ Found u → args ≡ u
    args_is true args u e = cc
    args_is false args u e = absurd cc

    port_found : (name : List ℕ) (o : Option Builtin) (u : Val) → named port_calls name ≡ o → option_map Built o ≡ Some u → IsPlain library h u
    port_found name (Some b) u e q =
        let same_one : Built b ≡ u = cc in
        subst (IsPlain library h) same_one (named_one port_calls name b (refl, (refl, (refl, tt))) e)
    port_found name None u e q = absurd cc

    built_found : (b : Builtin) (name : List ℕ) (u : Val) → attribute h (Built b) name ≡ Found u → IsPlain library h u
    built_found builtins.Port name u e = port_found name (named port_calls name) u refl (value_is (option_map Built (named port_calls name)) u e)
    built_found _ name u e = absurd cc

    object_found : (n : ℕ) (name : List ℕ) (o : Obj) (u : Val) → object h.objects n ≡ o → object_attribute h name o ≡ Found u → IsPlain library h u
    object_found n name None u q e = absurd cc
    object_found n name (Some (ListObject items room)) u q e = absurd (no_value _ u e)
    object_found n name (Some (DictObject pairs room)) u q e = absurd (no_value _ u e)
    object_found n name (Some (TextObject bytes)) u q e = absurd (no_value _ u e)
    object_found n name (Some (ExceptionObject kind args file line own)) u q e = subst (IsPlain library h) (args_is (bytes_eq name (codes "args")) args u e) (f.fine n (ExceptionObject kind args file line own) q).plain
    object_found n name (Some (ModuleObject own (Some names))) u q e = value_plain h (pairs_at h names) (Str name) u (dict_at h names f (names_dict library h n names f (ap names_of q))).plain (value_is _ u e)
    object_found n name (Some (ModuleObject own None)) u q e = absurd cc
    object_found n name (Some (TupleObject items)) u q e = absurd cc
    object_found n name (Some (FunctionObject own module_name code names defaults)) u q e = absurd cc
    object_found n name (Some (MethodObject v m)) u q e = absurd cc
    object_found n name (Some (RangeObject start stop step)) u q e = absurd cc

    found_plain : (v : Val) (name : List ℕ) (u : Val) → attribute h v name ≡ Found u → IsPlain library h u
    found_plain (Str bytes) name u e = absurd (no_value _ u e)
    found_plain (Built b) name u e = built_found b name u e
    found_plain (At n) name u e = object_found n name (object h.objects n) u refl e
    found_plain Nil name u e = absurd cc
    found_plain (Truth b) name u e = absurd cc
    found_plain (Int z) name u e = absurd cc
    found_plain (Fixed items) name u e = absurd cc
    found_plain Empty name u e = absurd cc

    pub attribute_in : (v : Val) (name : List ℕ) (a : Attribute) → attribute h v name ≡ a → AttributeIn v a
    attribute_in v name (Found u) e = found_plain v name u e
    attribute_in v name (Method m) e = method_found h v name m e
    attribute_in v name Absent e = tt

    -- a method is bound to its object
    pub bound_in : (v : Val) (m : Builtin) → IsPlain library h v → HasMethod h.objects v m → V (making h (MethodObject v m))
    bound_in v m p has =
        let o = MethodObject v m in
        let k = with_made h o in
        let on = made_onward library h o refl in
        making_in library h o f refl (plain_on h k on library v p, method_on h k on library v m p has)

    gives_in : (v : Val) (name : List ℕ) (a : Attribute) → IsPlain library h v → AttributeIn v a → V (gives_attribute h v name a)
    gives_in v name (Found u) p q = (comes_same library h f, q)
    gives_in v name (Method m) p q = bound_in v m p q
    gives_in v name Absent p q = same

    pub get_attr_in : (v : Val) (name : List ℕ) → IsPlain library h v → V (get_attr h v name)
    get_attr_in v name p = gives_in v name (attribute h v name) p (attribute_in v name (attribute h v name) refl)

    -- a name goes into a module's names
    pub name_in : (names : ℕ) (name : List ℕ) (v : Val) → IsNamespace h names → IsName library name → IsPlain library h v → V (put_pair h names (Str name) v)
    name_in names name v space named_is p = put_in names (Str name) v (namespace_dict library h names f space) (inl named_is, refl, p) (λ s. (name, refl, named_is))

    in_by : (n : ℕ) (name : List ℕ) (v : Val) (o : Obj) → object h.objects n ≡ o → IsName library name → IsPlain library h v → V (set_in h (At n) name v o)
    in_by n name v (Some (ModuleObject own (Some names))) e named_is p = name_in names name v (n, ap names_of e) named_is p
    in_by n name v _ e named_is p = same

    pub set_attr_in : (o : Val) (name : List ℕ) (v : Val) → IsName library name → IsPlain library h v → V (set_attr h o name v)
    set_attr_in (At n) name v named_is p = in_by n name v (object h.objects n) refl named_is p
    set_attr_in o name v named_is p = same

    -- unpacking
    -- =========

    unpacked : (want : ℕ) (v : Val) (items : List Val) → IsPlain library h v → items_in h v ≡ Some items → IsIn library (Plains library) h (unpack_items h want v items)
    unpacked want v items p e =
        either library (Plains library) h (nat_lt (length items) want) _ _ (λ t. same)
        (either library (Plains library) h (nat_lt want (length items)) _ _ (λ t. same) (kept_plain h h items (shown h v) (comes_same library h f) (shown_in library h v f p) e))

    pub unpack_in : (want : ℕ) (v : Val) → IsPlain library h v → IsIn library (Plains library) h (unpack h want v)
    unpack_in want v p = iterating_in (Plains library) h v (unpack_items h want v) f (λ items e. unpacked want v items p e)
