-- Calls of built-ins and methods give plain values of plain ones.
use Rattle.std.proofs.Common.{◌≡◌, ℕ, List, [], ◌∷◌, ◌++◌, map, length, Bool, true, false, cond, Option, Some, None, Result, Ok, Err, refl, subst}
use Rattle.std.specs.Prelude.{ℤ, pos, negsuc, nat_lt, unsigned_abs, insert}
use Rattle.std.specs.Ordering.{int_eq}
use Rattle.std.specs.declared.cmp.Ordering.{Ordering}
use Rattle.std.specs.List.{AllByRecursion as Each, remove, range_with_len}
use Rattle.bc_progress.specs.bc_machine.Library.{Library}
use Rattle.bc_progress.specs.mpy_base.declared.builtin.Builtin.{Builtin}
use Rattle.bc_progress.specs.mpy_base.declared.builtin.Builtin.TheVariants as builtins
use Rattle.bc_progress.specs.mpy_base.World.{RangeObject, ListObject, AList, IsA}
use Rattle.bc_progress.specs.mpy_base.Weights.{does_fit, list_growth, grown_room, with_items}
use Rattle.bc_progress.specs.mpy_base.Val.{Val, Nil, Int, At}
use Rattle.bc_progress.specs.py_values.Shown.{PlainHeap, Shown, Nothing, Number, Text, Tuple, Items, Pairs, Range, Other, range_len, shown}
use Rattle.bc_progress.specs.py_values.Keys.{value_of_key}
use Rattle.bc_progress.specs.py_values.Small.{checked}
use Rattle.bc_progress.specs.py_values.Equality.{visit}
use Rattle.bc_progress.specs.py_primitives.Order.{Sign, Below, Above, Unordered, has_sign, order, better, best_from}
use Rattle.bc_progress.specs.py_primitives.Walks.{go_on}
use Rattle.bc_progress.specs.py_primitives.Outcome.{Outcome, gives, is_full, making_text, making_tuple, making_texts, making_exception}
use Rattle.bc_progress.specs.py_primitives.Texts.{str_of, repr_of, joined}
use Rattle.bc_progress.specs.py_primitives.Faults.{Fault, WrongCount, TooFew, TooMany}
use Rattle.bc_progress.specs.py_primitives.Iterables.{range_number, range_numbers, letter, shown_items, items_in, iterating, kept_items, length_of, place_before}
use Rattle.bc_progress.specs.py_primitives.Operators.{extend, members, all_of}
use Rattle.bc_progress.specs.py_primitives.Calls.{Counts, Exactly, Between, AtLeast, counts_of, count_fault, unless_fault, of_number, with_number, call_len, range_of, call_range, signed_number, trimmed, gives_numeral, int_of, ord_of, character, gives_best, best_of, made_letter, call_best, list_from, call_list, tuple_from, tuple_shown, call_tuple, named_type, instance_of, called, call}
use Rattle.bc_progress.specs.py_primitives.Methods.{put_items, pop_at, pop_from, pop, list_method, get_or, pop_found, making_pairs, dict_method, parts_of, gives_joined, list_of_texts, of_str, split_by, pieces_between, words_of, str_method, method_shown, call_method, found_from}
use Rattle.snap_kept.specs.Values.{IsPlain, IsPair, AreFine}
use Rattle.snap_kept.proofs.Onward.{plain_on}
use Rattle.snap_kept.proofs.Changes.{Comes, comes_same, comes_on, grown_comes, list_grown, is_there, ShownIn, shown_in}
use Rattle.snap_kept.proofs.Lists.{each_append, each_insert, each_remove, each_or_nil}
use Rattle.snap_kept.proofs.Making.{Plains, Counted, FaultIn, IsIn, either, followed, answer_map, walked, making_in, text_in, texts_in, tuple_in, list_in, dict_in, list_of_in, tuple_of_in, one_before, IsRaised, exception_in}
use Rattle.snap_kept.proofs.Using.{V, same, number_in, shown_list, keys_plain, values_plain, value_plain, kept_in, kept_plain, iterating_in, extend_in, place_in, key_in, list_comes, dict_without}

-- the fault of a count holds no value
count_by : (library : Library) (h : PlainHeap) (b : Bool) (x : Fault) (o : Option Fault) (fault : Fault) → FaultIn library h x → ((f : Fault) → o ≡ Some f → FaultIn library h f) → cond b (Some x) o ≡ Some fault → FaultIn library h fault
count_by library h true x o fault p q e = let is : x ≡ fault = cc in subst (FaultIn library h) is p
count_by library h false x o fault p q e = q fault e

count_same : (library : Library) (h : PlainHeap) (b : Bool) (x : Fault) (fault : Fault) → FaultIn library h x → cond b None (Some x) ≡ Some fault → FaultIn library h fault
count_same library h true x fault p e = absurd cc
count_same library h false x fault p e = let is : x ≡ fault = cc in subst (FaultIn library h) is p

pub count_in : (library : Library) (h : PlainHeap) (c : Counts) (n : ℕ) (fault : Fault) → count_fault c n ≡ Some fault → FaultIn library h fault
count_in library h (Exactly m) n fault e = count_same library h _ (WrongCount m n) fault tt e
count_in library h (Between least most) n fault e =
    count_by library h (nat_lt n least) (TooFew least n) _ fault tt (λ f q. count_by library h (nat_lt most n) (TooMany most n) None f tt (λ g r. absurd cc) q) e
count_in library h (AtLeast least) n fault e = count_by library h (nat_lt n least) (TooFew least n) None fault tt (λ g r. absurd cc) e

module _ (library : Library) (h : PlainHeap) (f : AreFine library h) where
  abbrev W : Outcome Val → Type 0
  W o = V library h f o

  abbrev s : Comes library h h × Unit {0}
  s = same library h f

  unless_in : (o : Option Fault) (next : Outcome Val) → ((fault : Fault) → o ≡ Some fault → FaultIn library h fault) → W next → W (unless_fault h o next)
  unless_in None next p q = q
  unless_in (Some fault) next p q = (comes_same library h f, p fault refl)

  number_by : (v : Val) (t : Shown) (next : ℤ → Outcome Val) → ((z : ℤ) → W (next z)) → W (of_number h v t next)
  number_by v (Number z) next on = on z
  number_by v _ next on = s

  with_in : (v : Val) (next : ℤ → Outcome Val) → ((z : ℤ) → W (next z)) → W (with_number h v next)
  with_in v next on = number_by v (shown h v) next on

  len_in : (v : Val) (o : Option (List Val)) → W (call_len h v o)
  len_in v (Some items) = number_in library h f (checked (pos (length_of h v)))
  len_in v None = s

  range_of_in : (start stop step : ℤ) → W (range_of h start stop step)
  range_of_in start stop step = either library (IsPlain library) h (int_eq step (pos 0)) _ _ (λ t. s) (making_in library h (RangeObject start stop step) f refl tt)

  range_in : (args : List Val) → W (call_range h args)
  range_in [] = s
  range_in (a ∷ []) = with_in a _ (λ stop. range_of_in (pos 0) stop (pos 1))
  range_in (a ∷ b ∷ []) = with_in a _ (λ start. with_in b _ (λ stop. range_of_in start stop (pos 1)))
  range_in (a ∷ b ∷ c ∷ _) = with_in a _ (λ start. with_in b _ (λ stop. with_in c _ (λ step. range_of_in start stop step)))

  numeral_in : (o : Option ℤ) → W (gives_numeral h o)
  numeral_in (Some z) = number_in library h f (checked z)
  numeral_in None = s

  int_in : (v : Val) (t : Shown) → W (int_of h v t)
  int_in v (Text bytes) = numeral_in (signed_number (trimmed bytes))
  int_in v other = number_by v other (λ z. gives (Int z) h) (λ z. s)

  ord_in : (t : Shown) → W (ord_of h t)
  ord_in (Text (byte ∷ [])) = s
  ord_in _ = s

  character_in : (z : ℤ) → W (character h z)
  character_in (pos n) = either library (IsPlain library) h (nat_lt n 128) _ _ (λ t. text_in library h (n ∷ []) f) s
  character_in (negsuc n) = s

  -- the best of values is one of them
  module _ (Q : Val → Type 0) (sign : Sign) where
    abbrev BestIn : Option (Result Val Unordered) → Type 0
    BestIn (Some (Ok v)) = Q v
    BestIn (Some (Err e)) = Unit {0}
    BestIn None = Unit {0}

    better_in : (v best : Val) (r : Result Ordering Unordered) → Q v → Q best → BestIn (Some (better h sign v best r))
    better_in v best (Ok o) p q = by (has_sign sign o)
      where
        by : (b : Bool) → BestIn (Some (Ok (cond b v best)))
        by true = p
        by false = q
    better_in v best (Err e) p q = tt

    best_in : (r : Result Val Unordered) (vs : List Val) → BestIn (Some r) → Each Q vs → BestIn (best_from h sign r vs).answer
    best_in r [] p q = p
    best_in (Ok best) (v ∷ vs) p q = by (order h v best).answer (λ r. best_in (better h sign v best r) vs (better_in v best r (q.0) p) (q.1))
      where
        by : (o : Option (Result Ordering Unordered)) → ((r : Result Ordering Unordered) → BestIn (best_from h sign (better h sign v best r) vs).answer) → BestIn (go_on o (order h v best).visits (λ found. best_from h sign (better h sign v best found) vs)).answer
        by (Some r) on = on r
        by None on = tt
    best_in (Err e) (v ∷ vs) p q = tt

    gives_best_in : (next : Val → Outcome Val) (r : Result Val Unordered) → ((v : Val) → Q v → W (next v)) → BestIn (Some r) → W (gives_best h sign next r)
    gives_best_in next (Ok best) on p = on best p
    gives_best_in next (Err e) on p = s

    best_of_in : (next : Val → Outcome Val) (vs : List Val) → ((v : Val) → Q v → W (next v)) → Each Q vs → W (best_of h sign next vs)
    best_of_in next [] on q = s
    best_of_in next (v ∷ vs) on q =
        walked library (IsPlain library) h (visit (best_from h sign (Ok v) vs)) (gives_best h sign next) f (λ r e. gives_best_in next r on (subst BestIn e (best_in (Ok v) vs (q.0) (q.1))))

  -- a letter is made, and any other value is plain
  letters_in : (t : Shown) (items : List Val) → ShownIn library h t → shown_items t ≡ Some items → Each (λ v. W (made_letter h t v)) items
  letters_in (Text bytes) items p e =
      let is : map letter bytes ≡ items = cc in subst (Each (λ v. W (made_letter h (Text bytes) v))) is (all bytes)
    where
      all : (bs : List ℕ) → Each (λ v. W (made_letter h (Text bytes) v)) (map letter bs)
      all [] = tt
      all (b ∷ bs) = (text_in library h (b ∷ []) f, all bs)
  letters_in (Tuple xs) items p e = let is : xs ≡ items = cc in subst (Each (λ v. W (made_letter h (Tuple xs) v))) is (own xs p)
    where
      own : (vs : List Val) → Plains library h vs → Each (λ v. W (made_letter h (Tuple xs) v)) vs
      own [] q = tt
      own (v ∷ vs) q = ((comes_same library h f, q.0), own vs (q.1))
  letters_in (Items xs) items p e = let is : xs ≡ items = cc in subst (Each (λ v. W (made_letter h (Items xs) v))) is (own xs p)
    where
      own : (vs : List Val) → Plains library h vs → Each (λ v. W (made_letter h (Items xs) v)) vs
      own [] q = tt
      own (v ∷ vs) q = ((comes_same library h f, q.0), own vs (q.1))
  letters_in (Pairs pairs) items p e = let is : map (λ pair. pair.0) pairs ≡ items = cc in subst (Each (λ v. W (made_letter h (Pairs pairs) v))) is (own (map (λ pair. pair.0) pairs) (keys_plain library h pairs p))
    where
      own : (vs : List Val) → Plains library h vs → Each (λ v. W (made_letter h (Pairs pairs) v)) vs
      own [] q = tt
      own (v ∷ vs) q = ((comes_same library h f, q.0), own vs (q.1))
  letters_in (Range start stop step) items p e =
      let is : range_numbers start stop step ≡ items = cc in subst (Each (λ v. W (made_letter h (Range start stop step) v))) is (own (range_with_len 0 (range_len start stop step)))
    where
      own : (places : List ℕ) → Each (λ v. W (made_letter h (Range start stop step) v)) (map (λ at. Int (range_number start step at)) places)
      own [] = tt
      own (at ∷ places) = (s, own places)
  letters_in Nothing items p e = absurd cc
  letters_in (Number z) items p e = absurd cc
  letters_in Other items p e = absurd cc

  several : (sign : Sign) (vs : List Val) → Plains library h vs → W (best_of h sign (λ best. gives best h) vs)
  several sign vs p = best_of_in (IsPlain library h) sign (λ best. gives best h) vs (λ v q. (comes_same library h f, q)) p

  call_best_in : (sign : Sign) (vs : List Val) → Plains library h vs → W (call_best h sign vs)
  call_best_in sign (v ∷ []) p =
      iterating_in library (IsPlain library) h v _ f (λ items e. best_of_in (λ u. W (made_letter h (shown h v) u)) sign (made_letter h (shown h v)) items (λ u q. q) (letters_in (shown h v) items (shown_in library h v f (p.0)) e))
  call_best_in sign [] p = several sign [] p
  call_best_in sign (v ∷ u ∷ vs) p = several sign (v ∷ u ∷ vs) p

  call_list_in : (args : List Val) → Plains library h args → W (call_list h args)
  call_list_in [] p = list_in library h [] f tt
  call_list_in (v ∷ _) p =
      iterating_in library (IsPlain library) h v (list_from h v) f (λ items e. list_of_in library h (length items) (λ behind. kept_items behind items (shown h v)) f (λ k c. kept_plain library h k items (shown h v) c (shown_in library h v f (p.0)) e))

  tuple_over : (v : Val) → IsPlain library h v → W (iterating h v (tuple_from h v))
  tuple_over v p =
      iterating_in library (IsPlain library) h v (tuple_from h v) f (λ items e. tuple_of_in library h (length items) (λ behind. kept_items behind items (shown h v)) f (λ k c. kept_in library h k items (shown h v) c (shown_in library h v f p) e))

  tuple_by : (v : Val) (t : Shown) → IsPlain library h v → W (tuple_shown h v t)
  tuple_by v (Tuple items) p = (comes_same library h f, p)
  tuple_by v _ p = tuple_over v p

  call_tuple_in : (args : List Val) → Plains library h args → W (call_tuple h args)
  call_tuple_in [] p = s
  call_tuple_in (v ∷ _) p = tuple_by v (shown h v) (p.0)

  instance_in : (v : Val) (o : Option (List Builtin)) → W (instance_of h v o)
  instance_in v (Some types) = s
  instance_in v None = s

  called_in : (b : Builtin) (args : List Val) → Plains library h args → W (called h b args)
  called_in builtins.Len (v ∷ _) p = len_in v (items_in h v)
  called_in builtins.Abs (v ∷ _) p = with_in v _ (λ z. number_in library h f (checked (pos (unsigned_abs z))))
  called_in builtins.Bool (v ∷ _) p = s
  called_in builtins.Range args p = range_in args
  called_in builtins.Min args p = call_best_in Below args p
  called_in builtins.Max args p = call_best_in Above args p
  called_in builtins.Str (v ∷ _) p = walked library (IsPlain library) h (str_of h v) (making_text h) f (λ text e. text_in library h text f)
  called_in builtins.Repr (v ∷ _) p = walked library (IsPlain library) h (repr_of h v) (making_text h) f (λ text e. text_in library h text f)
  called_in builtins.Int (v ∷ _) p = int_in v (shown h v)
  called_in builtins.Ord (v ∷ _) p = ord_in (shown h v)
  called_in builtins.Chr (v ∷ _) p = with_in v (character h) (λ z. character_in z)
  called_in builtins.List args p = call_list_in args p
  called_in builtins.Tuple args p = call_tuple_in args p
  called_in builtins.Dict _ p = dict_in library h 4 f
  called_in builtins.IsInstance (v ∷ types ∷ _) p = instance_in v (all_of named_type (members types (shown h types)))
  called_in (builtins.Kind kind) args p =
      let o = making_exception h kind args in
      answer_map library (IsRaised library) (IsPlain library) h o.heap o.answer (λ a c q. q.3) (exception_in library h kind args f p)
  called_in _ _ p = s

  pub call_in : (b : Builtin) (args : List Val) (keys : List (Val × Val)) → Plains library h args → W (call h b args keys)
  call_in b args [] p = unless_in (count_fault (counts_of b) (length args)) (called h b args) (λ fault e. count_in library h (counts_of b) (length args) fault e) (called_in b args p)
  call_in b args (_ ∷ _) p = s

  -- methods
  -- =======

  put_items_in : (n : ℕ) (items : List Val) → IsA h.objects AList n → Plains library h items → W (put_items h n items)
  put_items_in n items is p =
      either library (IsPlain library) h (does_fit h (list_growth h n (length items)) 0) (gives Nil (with_items h n items)) (is_full h (list_growth h n (length items)) 0)
      (λ t. (grown_comes library h n (list_growth h n (length items)) (ListObject items (grown_room h n (length items))) f (is_there library h n AList is) (list_grown library h n items (length items) is) p, tt))
      tt

  pop_from_in : (n : ℕ) (items : List Val) (index : Val) → IsA h.objects AList n → Plains library h items → W (pop_from h n items index)
  pop_from_in n [] index is p = s
  pop_from_in n (x ∷ items) index is p =
      place_in library h f (At n) index (pop_at h n (x ∷ items)) (λ at.
      let c = list_comes library h f n (remove (x ∷ items) at) is (each_remove (IsPlain library h) (x ∷ items) at p) in
      (c, plain_on h _ c.onward library _ (each_or_nil (IsPlain library h) tt (x ∷ items) at p)))

  pop_in : (n : ℕ) (items args : List Val) → IsA h.objects AList n → Plains library h items → W (pop h n items args)
  pop_in n items [] is p = pop_from_in n items (Int (negsuc 0)) is p
  pop_in n items (index ∷ _) is p = with_in index _ (λ z. pop_from_in n items (Int z) is p)

  list_method_in : (m : Builtin) (n : ℕ) (items args : List Val) → IsA h.objects AList n → IsPlain library h (At n) → Plains library h items → Plains library h args → W (list_method h m n items args)
  list_method_in builtins.ListAppend n items (v ∷ _) is o p q = put_items_in n (items ++ v ∷ []) is (each_append (IsPlain library h) items (v ∷ []) p (q.0, tt))
  list_method_in builtins.ListPop n items args is o p q = pop_in n items args is p
  list_method_in builtins.ListInsert n items (index ∷ v ∷ _) is o p q = with_in index _ (λ z. put_items_in n (insert items (place_before (length items) z) v) is (each_insert (IsPlain library h) items (place_before (length items) z) v p ((q.1).0)))
  list_method_in builtins.ListExtend n items (v ∷ _) is o p q = followed library (IsPlain library) (IsPlain library) h (extend h n v) (λ extended behind. gives Nil behind) (extend_in library h f n v is o (q.0)) (λ x c r. (comes_same library _ c.fine, tt))
  list_method_in _ n items _ is o p q = s

  get_or_in : (o : Option Val) (others : List Val) → ((v : Val) → o ≡ Some v → IsPlain library h v) → Plains library h others → IsPlain library h (get_or o others)
  get_or_in (Some v) others p q = p v refl
  get_or_in None [] p q = tt
  get_or_in None (v ∷ _) p q = q.0

  pop_found_in : (n : ℕ) (pairs : List (Val × Val)) (key : Val) (others : List Val) (o : Option Val) → shown h (At n) ≡ Pairs pairs → IsPlain library h key → Plains library h others → ((v : Val) → o ≡ Some v → IsPlain library h v) → W (pop_found h n pairs key others o)
  pop_found_in n pairs key others (Some v) e p q r = let c = dict_without library h f n pairs key e in (c, plain_on h _ c.onward library v (r v refl))
  pop_found_in n pairs key (v ∷ _) None e p q r = (comes_same library h f, q.0)
  pop_found_in n pairs key [] None e p q r = (comes_same library h f, p)

  pairs_in : (k : PlainHeap) (pairs : List (Val × Val)) → Comes library h k → Each (IsPair library h) pairs → IsIn library (Counted library (length pairs)) k (making_pairs k pairs)
  pairs_in k [] c p = (comes_same library k c.fine, (tt, refl))
  pairs_in k (pair ∷ pairs) c p =
      one_before library (length pairs) k (making_tuple k (pair.0 ∷ pair.1 ∷ [])) (λ behind. making_pairs behind pairs)
      (tuple_in library k (pair.0 ∷ pair.1 ∷ []) c.fine (plain_on h k c.onward library (pair.0) ((p.0).0), (plain_on h k c.onward library (pair.1) ((p.0).2), tt)))
      (λ k2 d. pairs_in k2 pairs (comes_on library h k k2 c d) (p.1))

  dict_method_in : (m : Builtin) (n : ℕ) (pairs : List (Val × Val)) (args : List Val) → shown h (At n) ≡ Pairs pairs → Each (IsPair library h) pairs → Plains library h args → W (dict_method h m n pairs args)
  dict_method_in builtins.DictGet n pairs (key ∷ others) e p q = key_in library h f key _ (λ some. (comes_same library h f, get_or_in (value_of_key h pairs key) others (λ v r. value_plain library h pairs key v p r) (q.1)))
  dict_method_in builtins.DictPop n pairs (key ∷ others) e p q = key_in library h f key (pop_found h n pairs key others (value_of_key h pairs key)) (λ some. pop_found_in n pairs key others (value_of_key h pairs key) e (q.0) (q.1) (λ v r. value_plain library h pairs key v p r))
  dict_method_in builtins.DictKeys n pairs _ e p q = list_in library h (map (λ pair. pair.0) pairs) f (keys_plain library h pairs p)
  dict_method_in builtins.DictValues n pairs _ e p q = list_in library h (map (λ pair. pair.1) pairs) f (values_plain library h pairs p)
  dict_method_in builtins.DictItems n pairs _ e p q =
      list_of_in library h (length pairs) (λ behind. making_pairs behind pairs) f (λ k c. answer_map library (Counted library (length pairs)) (Plains library) k (making_pairs k pairs).heap (making_pairs k pairs).answer (λ a d r. r.0) (pairs_in k pairs c p))
  dict_method_in _ n pairs _ e p q = s

  joined_in : (bytes : List ℕ) (o : Option (List (List ℕ))) → W (gives_joined h bytes o)
  joined_in bytes (Some parts) = text_in library h (joined bytes parts) f
  joined_in bytes None = s

  list_texts_in : (texts : List (List ℕ)) → W (list_of_texts h texts)
  list_texts_in texts = list_of_in library h (length texts) (λ behind. making_texts behind texts) f (λ k c. answer_map library (Counted library (length texts)) (Plains library) k (making_texts k texts).heap (making_texts k texts).answer (λ a d r. r.0) (texts_in library k texts c.fine))

  str_by : (object v : Val) (t : Shown) (next : List ℕ → Outcome Val) → ((bytes : List ℕ) → W (next bytes)) → W (of_str h object v t next)
  str_by object v (Text bytes) next on = on bytes
  str_by object v _ next on = s

  split_in : (bytes separator : List ℕ) → W (split_by h bytes separator)
  split_in bytes [] = s
  split_in bytes (byte ∷ separator) = list_texts_in (pieces_between 0 (byte ∷ separator) bytes)

  str_method_in : (m : Builtin) (object : Val) (bytes : List ℕ) (args : List Val) → W (str_method h m object bytes args)
  str_method_in builtins.StrJoin object bytes (v ∷ _) = iterating_in library (IsPlain library) h v _ f (λ items e. walked library (IsPlain library) h (parts_of h items) (gives_joined h bytes) f (λ parts q. joined_in bytes parts))
  str_method_in builtins.StrFind object bytes (v ∷ _) = str_by object v (shown h v) _ (λ part. number_in library h f (checked (found_from 0 part bytes)))
  str_method_in builtins.StrStartsWith object bytes (v ∷ _) = str_by object v (shown h v) _ (λ part. s)
  str_method_in builtins.StrSplit object bytes [] = list_texts_in (words_of bytes)
  str_method_in builtins.StrSplit object bytes (v ∷ _) = str_by object v (shown h v) (split_by h bytes) (λ part. split_in bytes part)
  str_method_in _ object bytes _ = s

  method_by : (m : Builtin) (object : Val) (args : List Val) (t : Shown) → shown h object ≡ t → IsPlain library h object → ShownIn library h t → Plains library h args → W (method_shown h m object args t)
  method_by m (At n) args (Items items) e o p q = list_method_in m n items args (shown_list h n items e) o p q
  method_by m (At n) args (Pairs pairs) e o p q = dict_method_in m n pairs args e p q
  method_by m object args (Text bytes) e o p q = str_method_in m object bytes args
  method_by m object args _ e o p q = s

  pub method_in : (m : Builtin) (object : Val) (args : List Val) (keys : List (Val × Val)) → IsPlain library h object → Plains library h args → W (call_method h m object args keys)
  method_in m object args [] o q =
      unless_in (count_fault (counts_of m) (length args)) (method_shown h m object args (shown h object)) (λ fault e. count_in library h (counts_of m) (length args) fault e)
      (method_by m object args (shown h object) refl o (shown_in library h object f o) q)
  method_in m object args (_ ∷ _) o q = s
