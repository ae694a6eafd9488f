-- No call of a built-in or a method makes an empty tuple or text.
use Rattle.std.proofs.Common.{ℕ, ℤ, pos, negsuc, List, [], ◌∷◌, ◌++◌, map, length, Option, Some, None, Result, Ok, Err, refl}
use Rattle.std.specs.Prelude.{nat_lt, unsigned_abs, insert}
use Rattle.std.specs.Ordering.{int_eq}
use Rattle.std.specs.List.{remove}
use Rattle.bc_machine.specs.mpy_base.declared.builtin.Builtin.{Builtin}
use Rattle.bc_machine.specs.mpy_base.declared.builtin.Builtin.TheVariants as builtins
use Rattle.bc_machine.specs.mpy_base.World.{DictObject, RangeObject, ListObject}
use Rattle.bc_machine.specs.mpy_base.Weights.{does_fit, list_growth, grown_room, with_items}
use Rattle.bc_machine.specs.mpy_base.Val.{Val, Nil, Int, Str, At}
use Rattle.bc_machine.specs.py_values.Shown.{PlainHeap, Shown, Number, Text, Tuple, Items, Pairs, shown}
use Rattle.bc_machine.specs.py_values.Keys.{value_of_key, without_key}
use Rattle.bc_machine.specs.py_values.Small.{checked}
use Rattle.bc_machine.specs.py_values.Equality.{visit}
use Rattle.bc_machine.specs.py_primitives.Order.{Sign, Below, Above, Unordered, best_from}
use Rattle.bc_machine.specs.py_primitives.Outcome.{Outcome, gives, is_full, making_text, making_tuple, making_texts}
use Rattle.bc_machine.specs.py_primitives.Texts.{str_of, repr_of}
use Rattle.bc_machine.specs.py_primitives.Faults.{Fault}
use Rattle.bc_machine.specs.py_primitives.Iterables.{items_in, kept_items, length_of, place_before}
use Rattle.bc_machine.specs.py_primitives.Operators.{gives_number, extend, members, all_of}
use Rattle.bc_machine.specs.py_primitives.Calls.{counts_of, count_fault, unless_fault, of_number, with_number, call_len, range_of, call_range, signed_number, trimmed, gives_numeral, int_of, ord_of, character, gives_best, best_of, made_letter, call_best, list_from, call_list, tuple_from, tuple_shown, call_tuple, named_type, instance_of, called, call}
use Rattle.bc_machine.specs.py_primitives.Methods.{put_items, pop_at, pop_from, pop, list_method, pop_found, making_pairs, dict_method, parts_of, gives_joined, list_of_texts, of_str, split_by, pieces_between, words_of, str_method, method_shown, call_method, found_from}
use Rattle.bc_machine.proofs.py_effects_lemmas.Unchanged.{number_same}
use Rattle.snap_laws.proofs.Filling.{F, same, grown_filled, f_same, f_either, f_followed, f_walk, f_making, f_text, f_tuple, f_list, f_texts, f_exception, f_list_of, f_kept_tuple, f_iterating, f_items, f_extend, f_place, f_key, f_with_list, f_with_dict}

pub f_unless : {A : Type 0} (h : PlainHeap) (f : Option Fault) (o : Outcome A) → F h o → F h (unless_fault h f o)
f_unless h None o p = p
f_unless h (Some f) o p = same h

number_by : {A : Type 0} (h : PlainHeap) (v : Val) (s : Shown) (next : ℤ → Outcome A) → ((z : ℤ) → F h (next z)) → F h (of_number h v s next)
number_by h v (Number z) next f = f z
number_by h v _ next f = same h

f_number : {A : Type 0} (h : PlainHeap) (v : Val) (next : ℤ → Outcome A) → ((z : ℤ) → F h (next z)) → F h (with_number h v next)
f_number h v next f = number_by h v (shown h v) next f

f_len : (h : PlainHeap) (v : Val) (o : Option (List Val)) → F h (call_len h v o)
f_len h v (Some items) = f_same h (gives_number h (checked (pos (length_of h v)))) (number_same h (checked (pos (length_of h v))))
f_len h v None = same h

f_range_of : (h : PlainHeap) (start stop step : ℤ) → F h (range_of h start stop step)
f_range_of h start stop step = f_either h (int_eq step (pos 0)) _ _ (same h) (f_making h (RangeObject start stop step) tt)

f_range : (h : PlainHeap) (args : List Val) → F h (call_range h args)
f_range h [] = same h
f_range h (a ∷ []) = f_number h a _ (λ stop. f_range_of h (pos 0) stop (pos 1))
f_range h (a ∷ b ∷ []) = f_number h a _ (λ start. f_number h b _ (λ stop. f_range_of h start stop (pos 1)))
f_range h (a ∷ b ∷ c ∷ _) = f_number h a _ (λ start. f_number h b _ (λ stop. f_number h c _ (λ step. f_range_of h start stop step)))

f_numeral : (h : PlainHeap) (o : Option ℤ) → F h (gives_numeral h o)
f_numeral h (Some z) = f_same h (gives_number h (checked z)) (number_same h (checked z))
f_numeral h None = same h

f_int : (h : PlainHeap) (v : Val) (s : Shown) → F h (int_of h v s)
f_int h v (Text bytes) = f_numeral h (signed_number (trimmed bytes))
f_int h v other = number_by h v other (λ z. gives (Int z) h) (λ z. same h)

f_ord : (h : PlainHeap) (s : Shown) → F h (ord_of h s)
f_ord h (Text (byte ∷ [])) = same h
f_ord h _ = same h

f_character : (h : PlainHeap) (z : ℤ) → F h (character h z)
f_character h (pos n) = f_either h (nat_lt n 128) _ _ (f_text h (n ∷ [])) (same h)
f_character h (negsuc n) = same h

best_by : (h : PlainHeap) (sign : Sign) (next : Val → Outcome Val) (r : Result Val Unordered) → ((v : Val) → F h (next v)) → F h (gives_best h sign next r)
best_by h sign next (Ok best) f = f best
best_by h sign next (Err e) f = same h

f_best_of : (h : PlainHeap) (sign : Sign) (next : Val → Outcome Val) (vs : List Val) → ((v : Val) → F h (next v)) → F h (best_of h sign next vs)
f_best_of h sign next [] f = same h
f_best_of h sign next (v ∷ vs) f = f_walk h (visit (best_from h sign (Ok v) vs)) (gives_best h sign next) (λ r. best_by h sign next r f)

f_letter : (h : PlainHeap) (s : Shown) (v : Val) → F h (made_letter h s v)
f_letter h (Text bytes) (Str letter) = f_text h letter
f_letter h _ v = same h

f_best : (h : PlainHeap) (sign : Sign) (vs : List Val) → F h (call_best h sign vs)
f_best h sign (v ∷ []) = f_iterating h v _ (λ items e. f_best_of h sign (made_letter h (shown h v)) items (λ u. f_letter h (shown h v) u))
f_best h sign [] = f_best_of h sign (λ best. gives best h) [] (λ u. same h)
f_best h sign (v ∷ u ∷ vs) = f_best_of h sign (λ best. gives best h) (v ∷ u ∷ vs) (λ x. same h)

f_call_list : (h : PlainHeap) (args : List Val) → F h (call_list h args)
f_call_list h [] = f_list h []
f_call_list h (v ∷ _) = f_iterating h v (list_from h v) (λ items e. f_list_of h (length items) (λ behind. kept_items behind items (shown h v)) (λ h1. f_items h1 items (shown h v)))

tuple_over : (h : PlainHeap) (v : Val) → F h (Rattle.bc_machine.specs.py_primitives.Iterables.iterating h v (tuple_from h v))
tuple_over h v = f_iterating h v (tuple_from h v) (λ items e. f_kept_tuple h v items e)

tuple_by : (h : PlainHeap) (v : Val) (s : Shown) → F h (tuple_shown h v s)
tuple_by h v (Tuple items) = same h
tuple_by h v _ = tuple_over h v

f_call_tuple : (h : PlainHeap) (args : List Val) → F h (call_tuple h args)
f_call_tuple h [] = same h
f_call_tuple h (v ∷ _) = tuple_by h v (shown h v)

f_instance : (h : PlainHeap) (v : Val) (o : Option (List Builtin)) → F h (instance_of h v o)
f_instance h v (Some types) = same h
f_instance h v None = same h

f_called : (h : PlainHeap) (b : Builtin) (args : List Val) → F h (called h b args)
f_called h builtins.Len (v ∷ _) = f_len h v (items_in h v)
f_called h builtins.Abs (v ∷ _) = f_number h v _ (λ z. f_same h (gives_number h (checked (pos (unsigned_abs z)))) (number_same h (checked (pos (unsigned_abs z)))))
f_called h builtins.Bool (v ∷ _) = same h
f_called h builtins.Range args = f_range h args
f_called h builtins.Min args = f_best h Below args
f_called h builtins.Max args = f_best h Above args
f_called h builtins.Str (v ∷ _) = f_walk h (str_of h v) (making_text h) (λ text. f_text h text)
f_called h builtins.Repr (v ∷ _) = f_walk h (repr_of h v) (making_text h) (λ text. f_text h text)
f_called h builtins.Int (v ∷ _) = f_int h v (shown h v)
f_called h builtins.Ord (v ∷ _) = f_ord h (shown h v)
f_called h builtins.Chr (v ∷ _) = f_number h v (character h) (λ z. f_character h z)
f_called h builtins.List args = f_call_list h args
f_called h builtins.Tuple args = f_call_tuple h args
f_called h builtins.Dict _ = f_making h (DictObject [] 4) tt
f_called h builtins.IsInstance (v ∷ types ∷ _) = f_instance h v (all_of named_type (members types (shown h types)))
f_called h (builtins.Kind kind) args = f_exception h kind args
f_called h _ _ = same h

pub f_call : (h : PlainHeap) (b : Builtin) (args : List Val) (keys : List (Val × Val)) → F h (call h b args keys)
f_call h b args [] = f_unless h (count_fault (counts_of b) (length args)) (called h b args) (f_called h b args)
f_call h b args (_ ∷ _) = same h

-- methods
f_put_items : (h : PlainHeap) (n : ℕ) (items : List Val) → F h (put_items h n items)
f_put_items h n items =
    f_either h (does_fit h (list_growth h n (length items)) 0) (gives Nil (with_items h n items)) (is_full h (list_growth h n (length items)) 0)
    (grown_filled h n (list_growth h n (length items)) (ListObject items (grown_room h n (length items))) tt refl) (same h)

f_pop_from : (h : PlainHeap) (n : ℕ) (items : List Val) (index : Val) → F h (pop_from h n items index)
f_pop_from h n [] index = same h
f_pop_from h n (x ∷ items) index = f_place h (At n) index (pop_at h n (x ∷ items)) (λ at. f_with_list h n (remove (x ∷ items) at))

f_pop : (h : PlainHeap) (n : ℕ) (items args : List Val) → F h (pop h n items args)
f_pop h n items [] = f_pop_from h n items (Int (negsuc 0))
f_pop h n items (index ∷ _) = f_number h index _ (λ z. f_pop_from h n items (Int z))

f_list_method : (h : PlainHeap) (m : Builtin) (n : ℕ) (items args : List Val) → F h (list_method h m n items args)
f_list_method h builtins.ListAppend n items (v ∷ _) = f_put_items h n (items ++ v ∷ [])
f_list_method h builtins.ListPop n items args = f_pop h n items args
f_list_method h builtins.ListInsert n items (index ∷ v ∷ _) = f_number h index _ (λ z. f_put_items h n (insert items (place_before (length items) z) v))
f_list_method h builtins.ListExtend n items (v ∷ _) = f_followed h (extend h n v) _ (f_extend h n v) (λ x e. same _)
f_list_method h _ n items _ = same h

f_pop_found : (h : PlainHeap) (n : ℕ) (pairs : List (Val × Val)) (key : Val) (others : List Val) (o : Option Val) → F h (pop_found h n pairs key others o)
f_pop_found h n pairs key others (Some v) = f_with_dict h n (without_key h pairs key)
f_pop_found h n pairs key (v ∷ _) None = same h
f_pop_found h n pairs key [] None = same h

f_pairs : (h : PlainHeap) (pairs : List (Val × Val)) → F h (making_pairs h pairs)
f_pairs h [] = same h
f_pairs h (pair ∷ pairs) =
    let first = making_tuple h (pair.0 ∷ pair.1 ∷ []) in
    f_followed h first _ (f_tuple h (pair.0 ∷ pair.1 ∷ [])) (λ v e. f_followed first.heap (making_pairs first.heap pairs) _ (f_pairs first.heap pairs) (λ vs q. same _))

f_dict_method : (h : PlainHeap) (m : Builtin) (n : ℕ) (pairs : List (Val × Val)) (args : List Val) → F h (dict_method h m n pairs args)
f_dict_method h builtins.DictGet n pairs (key ∷ others) = f_key h key _ (same h)
f_dict_method h builtins.DictPop n pairs (key ∷ others) = f_key h key (pop_found h n pairs key others (value_of_key h pairs key)) (f_pop_found h n pairs key others (value_of_key h pairs key))
f_dict_method h builtins.DictKeys n pairs _ = f_list h (map (λ pair. pair.0) pairs)
f_dict_method h builtins.DictValues n pairs _ = f_list h (map (λ pair. pair.1) pairs)
f_dict_method h builtins.DictItems n pairs _ = f_list_of h (length pairs) (λ behind. making_pairs behind pairs) (λ h1. f_pairs h1 pairs)
f_dict_method h _ n pairs _ = same h

f_joined : (h : PlainHeap) (bytes : List ℕ) (o : Option (List (List ℕ))) → F h (gives_joined h bytes o)
f_joined h bytes (Some parts) = f_text h (Rattle.bc_machine.specs.py_primitives.Texts.joined bytes parts)
f_joined h bytes None = same h

f_list_texts : (h : PlainHeap) (texts : List (List ℕ)) → F h (list_of_texts h texts)
f_list_texts h texts = f_list_of h (length texts) (λ behind. making_texts behind texts) (λ h1. f_texts h1 texts)

f_str : {A : Type 0} (h : PlainHeap) (object v : Val) (s : Shown) (next : List ℕ → Outcome A) → ((bytes : List ℕ) → F h (next bytes)) → F h (of_str h object v s next)
f_str h object v (Text bytes) next f = f bytes
f_str h object v _ next f = same h

f_split : (h : PlainHeap) (bytes separator : List ℕ) → F h (split_by h bytes separator)
f_split h bytes [] = same h
f_split h bytes (byte ∷ separator) = f_list_texts h (pieces_between 0 (byte ∷ separator) bytes)

f_str_method : (h : PlainHeap) (m : Builtin) (object : Val) (bytes : List ℕ) (args : List Val) → F h (str_method h m object bytes args)
f_str_method h builtins.StrJoin object bytes (v ∷ _) = f_iterating h v _ (λ items e. f_walk h (parts_of h items) (gives_joined h bytes) (λ parts. f_joined h bytes parts))
f_str_method h builtins.StrFind object bytes (v ∷ _) = f_str h object v (shown h v) _ (λ part. f_same h (gives_number h (checked (found_from 0 part bytes))) (number_same h (checked (found_from 0 part bytes))))
f_str_method h builtins.StrStartsWith object bytes (v ∷ _) = f_str h object v (shown h v) _ (λ part. same h)
f_str_method h builtins.StrSplit object bytes [] = f_list_texts h (words_of bytes)
f_str_method h builtins.StrSplit object bytes (v ∷ _) = f_str h object v (shown h v) (split_by h bytes) (λ part. f_split h bytes part)
f_str_method h _ object bytes _ = same h

method_by : (h : PlainHeap) (m : Builtin) (object : Val) (args : List Val) (s : Shown) → F h (method_shown h m object args s)
method_by h m (At n) args (Items items) = f_list_method h m n items args
method_by h m (At n) args (Pairs pairs) = f_dict_method h m n pairs args
method_by h m object args (Text bytes) = f_str_method h m object bytes args
method_by h m object args _ = same h

pub f_method : (h : PlainHeap) (m : Builtin) (object : Val) (args : List Val) (keys : List (Val × Val)) → F h (call_method h m object args keys)
f_method h m object args [] = f_unless h (count_fault (counts_of m) (length args)) (method_shown h m object args (shown h object)) (method_by h m object args (shown h object))
f_method h m object args (_ ∷ _) = same h
