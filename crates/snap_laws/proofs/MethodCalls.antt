-- Calls of methods are the same.
use Rattle.std.proofs.Common.{take, drop, ◌≡◌, ℕ, List, [], ◌∷◌, ◌++◌, length, map, Option, Some, None, refl, sym, ap, subst, ◌∙◌}
use Rattle.std.specs.Prelude.{negsuc, insert, nat_eq, slice_get, codes}
use Rattle.std.specs.List.{remove, starts_with}
use Rattle.std.specs.Option.{option_map}
use Rattle.std.proofs.lemmas.List.{length-map, map-append, take-map, drop-map}
use Rattle.bc_machine.specs.mpy_base.declared.builtin.Builtin.{Builtin}
use Rattle.bc_machine.specs.mpy_base.declared.builtin.Builtin.TheVariants as builtins
use Rattle.bc_machine.specs.mpy_base.World.{with_list, with_dict}
use Rattle.bc_machine.specs.mpy_base.Weights.{list_growth, with_items}
use Rattle.bc_machine.specs.mpy_base.Val.{Val, Nil, Truth, Int, At}
use Rattle.bc_machine.specs.py_values.Shown.{PlainHeap, Shown, Nothing, Number, Text, Tuple, Items, Pairs, Range, Other, shown}
use Rattle.bc_machine.specs.py_values.Keys.{value_of_key, without_key}
use Rattle.bc_machine.specs.py_values.Equality.{visit}
use Rattle.bc_machine.specs.py_values.Small.{checked}
use Rattle.bc_machine.specs.py_primitives.Faults.{NoKeywords, EmptyList, NoKey, JoinsNoStr, EmptySeparator}
use Rattle.bc_machine.specs.py_primitives.Outcome.{Outcome, gives, with_visits, after_walk, making_texts, making_tuple, making_list, list_of}
use Rattle.bc_machine.specs.py_primitives.Texts.{joined}
use Rattle.bc_machine.specs.py_primitives.Iterables.{or_nil, place_before}
use Rattle.bc_machine.specs.py_primitives.Operators.{gives_number, extend}
use Rattle.bc_machine.specs.py_primitives.Methods.{put_items, pop_at, pop_from, pop, insert_item, list_method, get_or, pop_found, dict_list, making_pairs, dict_method, str_in, part_behind, parts_of, gives_joined, found_from, pieces_between, words_of, list_of_texts, of_str, split_by, str_method, method_shown, call_method}
use Rattle.snap_laws.specs.Renamed.{Renaming, value, pair, shown_as, IsRenamed}
use Rattle.snap_laws.specs.Outcomes.{IsOutcome}
use Rattle.snap_laws.proofs.Seen.{seen, value_of_key_as}
use Rattle.snap_laws.proofs.Combining.{given, raised, fitting, visited, followed, walked_same, one_before, text_made, texts_made, tuple_as, list_as, list_of_as, put_list, put_dict, list_growth_as, grown_list}
use Rattle.snap_laws.proofs.Iterating.{iterating_as, item_as, keys_as, values_as}
use Rattle.snap_laws.proofs.Binary.{number_given, unsupported_as}
use Rattle.snap_laws.proofs.Comparing.{extend_as}
use Rattle.snap_laws.proofs.Using.{map_remove, place_as, keyed, without_key_as}
use Rattle.snap_laws.proofs.BuiltinCalls.{counted, with_number_as}

map_insert : {X Y : Type 0} (f : X → Y) (xs : List X) (i : ℕ) (x : X)
    → insert (map f xs) i (f x) ≡ map f (insert xs i x)
map_insert f xs i x =
    ap (λ z. z ++ f x ∷ drop i (map f xs)) (take-map f i xs)
    ∙ ap (λ z. map f (take i xs) ++ f x ∷ z) (drop-map f i xs)
    ∙ sym (map-append f (take i xs) (x ∷ drop i xs))

module _ (r : Renaming) where
  got_as : (o : Option Val) (others : List Val)
      → get_or (option_map (value r) o) (map (value r) others) ≡ value r (get_or o others)
  got_as (Some v) others = refl
  got_as None [] = refl
  got_as None (v ∷ others) = refl

  str_shown : (s : Shown) → str_in (shown_as r s) ≡ str_in s
  str_shown Nothing = refl
  str_shown (Number z) = refl
  str_shown (Text bytes) = refl
  str_shown (Tuple items) = refl
  str_shown (Items items) = refl
  str_shown (Pairs pairs) = refl
  str_shown (Range start stop step) = refl
  str_shown Other = refl

  pairs_made : (h k : PlainHeap) → IsRenamed r h k → (pairs : List (Val × Val))
      → IsOutcome r (map (value r)) (making_pairs h pairs) (making_pairs k (map (pair r) pairs))
  pairs_made h k is [] = given r (map (value r)) h k is [] [] refl
  pairs_made h k is (p ∷ pairs) =
      one_before r (making_tuple h (p.0 ∷ p.1 ∷ [])) (making_tuple k (value r p.0 ∷ value r p.1 ∷ []))
      (tuple_as r h k is (p.0 ∷ p.1 ∷ []) (value r p.0 ∷ value r p.1 ∷ []) refl)
      (λ behind. making_pairs behind pairs) (λ behind. making_pairs behind (map (pair r) pairs))
      (λ i j at. pairs_made i j at pairs)

  module _ (h k : PlainHeap) (is : IsRenamed r h k) where
    abbrev Same : Outcome Val → Outcome Val → Type 0
    Same o p = IsOutcome r (value r) o p

    -- lists
    put_items_as : (n m : ℕ) → m ≡ r.to n → (xs ys : List Val) → ys ≡ map (value r) xs
        → Same (put_items h n xs) (put_items k m ys)
    put_items_as n m e xs ys f =
        fitting r (value r) h k is (list_growth h n (length xs)) 0 (list_growth k m (length ys)) 0
        (list_growth_as r h k is n m e (length xs) (length ys) (ap length f ∙ length-map xs (value r))) refl
        (gives Nil (with_items h n xs)) (gives Nil (with_items k m ys))
        (given r (value r) (with_items h n xs) (with_items k m ys) (grown_list r h k is n m e xs ys f) Nil Nil refl)

    pop_at_as : (n : ℕ) (items : List Val) (at : ℕ)
        → Same (pop_at h n items at) (pop_at k (r.to n) (map (value r) items) at)
    pop_at_as n items at =
        given r (value r) (with_list h n (remove items at)) (with_list k (r.to n) (remove (map (value r) items) at))
        (put_list r h k is n (r.to n) refl (remove items at) (remove (map (value r) items) at)
        (map_remove (value r) items at))
        (or_nil (slice_get items at)) (or_nil (slice_get (map (value r) items) at)) (item_as r items at)

    pop_from_as : (n : ℕ) (items : List Val) (index : Val)
        → Same (pop_from h n items index) (pop_from k (r.to n) (map (value r) items) (value r index))
    pop_from_as n [] index = raised r (value r) h k is EmptyList EmptyList refl
    pop_from_as n (x ∷ items) index =
        place_as r h k is (value r) (At n) index (pop_at h n (x ∷ items))
        (pop_at k (r.to n) (map (value r) (x ∷ items))) (pop_at_as n (x ∷ items))

    pop_as : (n : ℕ) (items args : List Val)
        → Same (pop h n items args) (pop k (r.to n) (map (value r) items) (map (value r) args))
    pop_as n items [] = pop_from_as n items (Int (negsuc 0))
    pop_as n items (index ∷ _) =
        with_number_as r h k is (value r) index (λ z. pop_from h n items (Int z))
        (λ z. pop_from k (r.to n) (map (value r) items) (Int z)) (λ z. pop_from_as n items (Int z))

    insert_as : (n : ℕ) (items : List Val) (index v : Val)
        → Same (insert_item h n items index v) (insert_item k (r.to n) (map (value r) items) (value r index)
        (value r v))
    insert_as n items index v =
        with_number_as r h k is (value r) index (λ z. put_items h n (insert items (place_before (length items) z) v))
        (λ z. put_items k (r.to n) (insert (map (value r) items) (place_before (length (map (value r) items)) z)
        (value r v)))
        (λ z. put_items_as n (r.to n) refl (insert items (place_before (length items) z) v)
        (insert (map (value r) items) (place_before (length (map (value r) items)) z) (value r v))
        (ap (λ l. insert (map (value r) items) (place_before l z) (value r v)) (length-map items (value r))
        ∙ map_insert (value r) items (place_before (length items) z) v))

    nothing : Same (gives Nil h) (gives Nil k)
    nothing = given r (value r) h k is Nil Nil refl

    list_method_as : (method : Builtin) (n : ℕ) (items args : List Val)
        → Same (list_method h method n items args) (list_method k method (r.to n) (map (value r) items)
        (map (value r) args))
    list_method_as builtins.ListAppend n items (v ∷ _) =
        put_items_as n (r.to n) refl (items ++ v ∷ []) (map (value r) items ++ value r v ∷ [])
        (sym (map-append (value r) items (v ∷ [])))
    list_method_as builtins.ListPop n items args = pop_as n items args
    list_method_as builtins.ListInsert n items (index ∷ v ∷ _) = insert_as n items index v
    list_method_as builtins.ListExtend n items (v ∷ _) =
        followed r (value r) (value r) (extend h n v) (extend k (r.to n) (value r v))
        (λ extended behind. gives Nil behind) (λ extended behind. gives Nil behind)
        (extend_as r h k is n (r.to n) refl v)
        (λ extended i j at. given r (value r) i j at Nil Nil refl)
    list_method_as builtins.ListInsert n items (index ∷ []) = nothing
    list_method_as _ n items [] = nothing
    list_method_as _ n items (v ∷ args) = nothing

    -- dicts
    pop_found_as : (n : ℕ) (pairs : List (Val × Val)) (key : Val) (others : List Val) (o : Option Val)
        → Same (pop_found h n pairs key others o) (pop_found k (r.to n) (map (pair r) pairs) (value r key)
        (map (value r) others) (option_map (value r) o))
    pop_found_as n pairs key others (Some v) =
        given r (value r) (with_dict h n (without_key h pairs key))
        (with_dict k (r.to n) (without_key k (map (pair r) pairs) (value r key)))
        (put_dict r h k is n (r.to n) refl (without_key h pairs key)
        (without_key k (map (pair r) pairs) (value r key)) (without_key_as r h k is pairs key)) v (value r v) refl
    pop_found_as n pairs key (v ∷ _) None = given r (value r) h k is v (value r v) refl
    pop_found_as n pairs key [] None = raised r (value r) h k is (NoKey key) (NoKey (value r key)) refl

    dict_list_as : (xs ys : List Val) → ys ≡ map (value r) xs → Same (dict_list h xs) (dict_list k ys)
    dict_list_as xs ys e =
        visited r (value r) (length xs) (length ys) (ap length e ∙ length-map xs (value r)) (making_list h xs)
        (making_list k ys) (list_as r h k is xs ys e)

    dict_items : (pairs : List (Val × Val))
        → Same (with_visits (length pairs) (list_of h (length pairs) (λ behind. making_pairs behind pairs)))
        (with_visits (length (map (pair r) pairs)) (list_of k (length (map (pair r) pairs))
        (λ behind. making_pairs behind (map (pair r) pairs))))
    dict_items pairs =
        visited r (value r) (length pairs) (length (map (pair r) pairs)) (length-map pairs (pair r))
        (list_of h (length pairs) (λ behind. making_pairs behind pairs))
        (list_of k (length (map (pair r) pairs)) (λ behind. making_pairs behind (map (pair r) pairs)))
        (list_of_as r h k is (length pairs) (length (map (pair r) pairs)) (length-map pairs (pair r))
        (λ behind. making_pairs behind pairs) (λ behind. making_pairs behind (map (pair r) pairs))
        (λ i j at. pairs_made i j at pairs))

    dict_get : (pairs : List (Val × Val)) (key : Val) (others : List Val)
        → Same (gives (get_or (value_of_key h pairs key) others) h)
        (gives (get_or (value_of_key k (map (pair r) pairs) (value r key)) (map (value r) others)) k)
    dict_get pairs key others =
        given r (value r) h k is (get_or (value_of_key h pairs key) others)
        (get_or (value_of_key k (map (pair r) pairs) (value r key)) (map (value r) others))
        (ap (λ z. get_or z (map (value r) others)) (value_of_key_as r h k is pairs key) ∙ got_as
        (value_of_key h pairs key) others)

    dict_pop : (n : ℕ) (pairs : List (Val × Val)) (key : Val) (others : List Val)
        → Same (pop_found h n pairs key others (value_of_key h pairs key))
        (pop_found k (r.to n) (map (pair r) pairs) (value r key) (map (value r) others)
        (value_of_key k (map (pair r) pairs) (value r key)))
    dict_pop n pairs key others =
        subst (λ z. Same (pop_found h n pairs key others (value_of_key h pairs key))
        (pop_found k (r.to n) (map (pair r) pairs) (value r key) (map (value r) others) z))
        (sym (value_of_key_as r h k is pairs key))
        (pop_found_as n pairs key others (value_of_key h pairs key))

    dict_method_as : (method : Builtin) (n : ℕ) (pairs : List (Val × Val)) (args : List Val)
        → Same (dict_method h method n pairs args) (dict_method k method (r.to n) (map (pair r) pairs)
        (map (value r) args))
    dict_method_as builtins.DictGet n pairs (key ∷ others) =
        keyed r h k is (value r) key (gives (get_or (value_of_key h pairs key) others) h)
        (gives (get_or (value_of_key k (map (pair r) pairs) (value r key)) (map (value r) others)) k)
        (dict_get pairs key others)
    dict_method_as builtins.DictPop n pairs (key ∷ others) =
        keyed r h k is (value r) key (pop_found h n pairs key others (value_of_key h pairs key))
        (pop_found k (r.to n) (map (pair r) pairs) (value r key) (map (value r) others)
        (value_of_key k (map (pair r) pairs) (value r key))) (dict_pop n pairs key others)
    dict_method_as builtins.DictKeys n pairs _ =
        dict_list_as (map (λ (p : Val × Val). p.0) pairs) (map (λ (p : Val × Val). p.0) (map (pair r) pairs))
        (keys_as r pairs)
    dict_method_as builtins.DictValues n pairs _ =
        dict_list_as (map (λ (p : Val × Val). p.1) pairs) (map (λ (p : Val × Val). p.1) (map (pair r) pairs))
        (values_as r pairs)
    dict_method_as builtins.DictItems n pairs _ = dict_items pairs
    dict_method_as _ n pairs [] = nothing
    dict_method_as _ n pairs (v ∷ args) = nothing

    -- strs
    parts_same : (vs : List Val) → parts_of k (map (value r) vs) ≡ parts_of h vs
    parts_same [] = refl
    parts_same (v ∷ vs) =
        ap (λ z. visit (part_behind z (parts_of k (map (value r) vs))))
        (ap str_in (seen r h k is v) ∙ str_shown (shown h v))
        ∙ ap (λ z. visit (part_behind (str_in (shown h v)) z)) (parts_same vs)

    joined_given : (bytes : List ℕ) (o : Option (List (List ℕ)))
        → Same (gives_joined h bytes o) (gives_joined k bytes o)
    joined_given bytes (Some parts) = text_made r h k is (joined bytes parts)
    joined_given bytes None = raised r (value r) h k is JoinsNoStr JoinsNoStr refl

    texts_listed : (texts : List (List ℕ)) → Same (list_of_texts h texts) (list_of_texts k texts)
    texts_listed texts =
        list_of_as r h k is (length texts) (length texts) refl (λ behind. making_texts behind texts)
        (λ behind. making_texts behind texts) (λ i j at. texts_made r i j at texts)

    of_str_as : (object v : Val) (s : Shown) (next next' : List ℕ → Outcome Val)
        → ((bytes : List ℕ) → Same (next bytes) (next' bytes))
        → Same (of_str h object v s next) (of_str k (value r object) (value r v) (shown_as r s) next')
    of_str_as object v (Text bytes) next next' on = on bytes
    of_str_as object v _ next next' on = unsupported_as r h k is (value r) (codes "__contains__") object v

    str_argument : (object v : Val) (next next' : List ℕ → Outcome Val)
        → ((bytes : List ℕ) → Same (next bytes) (next' bytes))
        → Same (of_str h object v (shown h v) next) (of_str k (value r object) (value r v) (shown k (value r v))
        next')
    str_argument object v next next' on =
        subst (λ s. Same (of_str h object v (shown h v) next) (of_str k (value r object) (value r v) s next'))
        (sym (seen r h k is v)) (of_str_as object v (shown h v) next next' on)

    split_as : (bytes separator : List ℕ) → Same (split_by h bytes separator) (split_by k bytes separator)
    split_as bytes [] = raised r (value r) h k is EmptySeparator EmptySeparator refl
    split_as bytes (byte ∷ separator) = texts_listed (pieces_between 0 (byte ∷ separator) bytes)

    str_method_as : (method : Builtin) (object : Val) (bytes : List ℕ) (args : List Val)
        → Same (str_method h method object bytes args)
        (str_method k method (value r object) bytes (map (value r) args))
    str_method_as builtins.StrJoin object bytes (v ∷ _) =
        iterating_as r h k is (value r) v (λ items. after_walk h (parts_of h items) (gives_joined h bytes))
        (λ items. after_walk k (parts_of k items) (gives_joined k bytes))
        (λ items. walked_same r (value r) h k is (parts_of h items) (parts_of k (map (value r) items))
        (gives_joined h bytes) (gives_joined k bytes) (parts_same items) (joined_given bytes))
    str_method_as builtins.StrFind object bytes (v ∷ _) =
        str_argument object v (λ part. gives_number h (checked (found_from 0 part bytes)))
        (λ part. gives_number k (checked (found_from 0 part bytes)))
        (λ part. number_given r h k is (checked (found_from 0 part bytes)))
    str_method_as builtins.StrStartsWith object bytes (v ∷ _) =
        str_argument object v (λ part. gives (Truth (starts_with nat_eq bytes part)) h)
        (λ part. gives (Truth (starts_with nat_eq bytes part)) k)
        (λ part. given r (value r) h k is (Truth (starts_with nat_eq bytes part))
        (Truth (starts_with nat_eq bytes part)) refl)
    str_method_as builtins.StrSplit object bytes [] = texts_listed (words_of bytes)
    str_method_as builtins.StrSplit object bytes (v ∷ _) =
        str_argument object v (split_by h bytes) (split_by k bytes) (split_as bytes)
    str_method_as _ object bytes [] = nothing
    str_method_as _ object bytes (v ∷ args) = nothing

    -- all of them
    method_shown_as : (method : Builtin) (object : Val) (args : List Val) (s : Shown)
        → Same (method_shown h method object args s) (method_shown k method (value r object) (map (value r) args)
        (shown_as r s))
    method_shown_as method (At n) args (Items items) = list_method_as method n items args
    method_shown_as method (At n) args (Pairs pairs) = dict_method_as method n pairs args
    method_shown_as method object args (Text bytes) = str_method_as method object bytes args
    method_shown_as method object args _ = nothing

    pub method_as : (method : Builtin) (object : Val) (args : List Val) (keys : List (Val × Val))
        → Same (call_method h method object args keys)
        (call_method k method (value r object) (map (value r) args) (map (pair r) keys))
    method_as method object args [] =
        counted r h k is (value r) method args (method_shown h method object args (shown h object))
        (method_shown k method (value r object) (map (value r) args) (shown k (value r object)))
        (subst (λ s. Same (method_shown h method object args (shown h object))
        (method_shown k method (value r object) (map (value r) args) s)) (sym (seen r h k is object))
        (method_shown_as method object args (shown h object)))
    method_as method object args (_ ∷ _) = raised r (value r) h k is NoKeywords NoKeywords refl
