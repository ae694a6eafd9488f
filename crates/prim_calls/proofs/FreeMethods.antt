-- Methods that make no visits.
use Rattle.std.proofs.Common.{◌≡◌, ℕ, negsuc, List, [], ◌∷◌, ◌++◌, length, Option, Some, None, refl}
use Rattle.std.specs.Prelude.{nat_eq}
use Rattle.std.specs.List.{starts_with}
use Rattle.mpy_base.specs.declared.builtin.Builtin.{Builtin}
use Rattle.mpy_base.specs.declared.builtin.Builtin.TheVariants as builtins
use Rattle.mpy_base.specs.Weights.{does_fit, list_growth, with_items}
use Rattle.mpy_base.specs.Val.{Val, Nil, Truth, Int, At}
use Rattle.prim_types.specs.py_values.Shown.{PlainHeap, Shown, Nothing, Number, Text, Tuple, Items, Pairs, Range, Other, shown}
use Rattle.prim_types.specs.py_values.Keys.{value_of_key}
use Rattle.prim_types.specs.py_values.Small.{checked}
use Rattle.prim_types.specs.py_primitives.Outcome.{Outcome, gives, is_full, making_texts}
use Rattle.prim_types.specs.py_primitives.Operators.{gives_number}
use Rattle.prim_types.specs.py_primitives.Iterables.{length_of, place_at}
use Rattle.prim_types.specs.py_primitives.Uses.{at_found, at_shown}
use Rattle.prim_types.specs.py_primitives.Calls.{counts_of, count_fault}
use Rattle.prim_types.specs.py_primitives.Methods.{put_items, pop_at, pop_from, pop, list_method, get_or, pop_found, dict_method, list_of_texts, of_str, split_by, words_of, found_from, pieces_between, str_method, method_shown, call_method}
use Rattle.prim_calls.proofs.FreeOutcomes.{either_free, unless_free, number_free, gives_free, key_free, texts_free, list_free}

put_free : (heap : PlainHeap) (list : ℕ) (items : List Val) → (put_items heap list items).visits ≡ 0
put_free heap list items =
    either_free (does_fit heap (list_growth heap list (length items)) 0) (gives Nil (with_items heap list items)) (is_full heap (list_growth heap list (length items)) 0) refl refl

found_free : {A : Type 0} (heap : PlainHeap) (v : Val) (at : Option ℕ) (next : ℕ → Outcome A) → ((k : ℕ) → (next k).visits ≡ 0) → (at_found heap v at next).visits ≡ 0
found_free heap v (Some at) next free = free at
found_free heap v None next free = refl

place_free : {A : Type 0} (heap : PlainHeap) (v index : Val) (s : Shown) (next : ℕ → Outcome A) → ((k : ℕ) → (next k).visits ≡ 0) → (at_shown heap v index s next).visits ≡ 0
place_free heap v index (Number z) next free = found_free heap v (place_at (length_of heap v) z) next free
place_free heap v index Nothing next free = refl
place_free heap v index (Text bytes) next free = refl
place_free heap v index (Tuple items) next free = refl
place_free heap v index (Items items) next free = refl
place_free heap v index (Pairs pairs) next free = refl
place_free heap v index (Range start stop step) next free = refl
place_free heap v index Other next free = refl

from_free : (heap : PlainHeap) (list : ℕ) (items : List Val) (index : Val) → (pop_from heap list items index).visits ≡ 0
from_free heap list [] index = refl
from_free heap list (item ∷ items) index = place_free heap (At list) index (shown heap index) (pop_at heap list (item ∷ items)) (λ k. refl)

pop_free : (heap : PlainHeap) (list : ℕ) (items args : List Val) → (pop heap list items args).visits ≡ 0
pop_free heap list items [] = from_free heap list items (Int (negsuc 0))
pop_free heap list items (index ∷ others) = number_free heap index (shown heap index) (λ z. pop_from heap list items (Int z)) (λ z. from_free heap list items (Int z))

free_list : (heap : PlainHeap) (method : Builtin) (list : ℕ) (items args : List Val) → (method ≡ builtins.ListExtend → ⊥) → (list_method heap method list items args).visits ≡ 0
free_list heap builtins.ListAppend list items [] other = refl
free_list heap builtins.ListAppend list items (v ∷ vs) other = put_free heap list (items ++ v ∷ [])
free_list heap builtins.ListPop list items args other = pop_free heap list items args
free_list heap builtins.ListInsert list items [] other = refl
free_list heap builtins.ListInsert list items (index ∷ []) other = refl
free_list heap builtins.ListInsert list items (index ∷ v ∷ vs) other = number_free heap index (shown heap index) _ (λ z. put_free heap list _)
free_list heap builtins.ListExtend list items args other = absurd (other refl)
free_list heap _ list items args other = refl

found_pair_free : (heap : PlainHeap) (dict : ℕ) (pairs : List (Val × Val)) (key : Val) (others : List Val) (found : Option Val) → (pop_found heap dict pairs key others found).visits ≡ 0
found_pair_free heap dict pairs key others (Some v) = refl
found_pair_free heap dict pairs key [] None = refl
found_pair_free heap dict pairs key (v ∷ vs) None = refl

free_dict : (heap : PlainHeap) (method : Builtin) (dict : ℕ) (pairs : List (Val × Val)) (args : List Val) → (method ≡ builtins.DictKeys → ⊥) → (method ≡ builtins.DictValues → ⊥) → (method ≡ builtins.DictItems → ⊥)
    → (dict_method heap method dict pairs args).visits ≡ 0
free_dict heap builtins.DictGet dict pairs [] a b c = refl
free_dict heap builtins.DictGet dict pairs (key ∷ others) a b c = key_free heap key (gives (get_or (value_of_key heap pairs key) others) heap) refl
free_dict heap builtins.DictPop dict pairs [] a b c = refl
free_dict heap builtins.DictPop dict pairs (key ∷ others) a b c =
    key_free heap key (pop_found heap dict pairs key others (value_of_key heap pairs key)) (found_pair_free heap dict pairs key others (value_of_key heap pairs key))
free_dict heap builtins.DictKeys dict pairs args a b c = absurd (a refl)
free_dict heap builtins.DictValues dict pairs args a b c = absurd (b refl)
free_dict heap builtins.DictItems dict pairs args a b c = absurd (c refl)
free_dict heap _ dict pairs args a b c = refl

new_texts_free : (heap : PlainHeap) (texts : List (List ℕ)) → (list_of_texts heap texts).visits ≡ 0
new_texts_free heap texts = list_free heap (length texts) (λ behind. making_texts behind texts) (λ behind. texts_free behind texts)

str_free : {A : Type 0} (heap : PlainHeap) (object v : Val) (s : Shown) (next : List ℕ → Outcome A) → ((bytes : List ℕ) → (next bytes).visits ≡ 0) → (of_str heap object v s next).visits ≡ 0
str_free heap object v (Text bytes) next free = free bytes
str_free heap object v Nothing next free = refl
str_free heap object v (Number z) next free = refl
str_free heap object v (Tuple items) next free = refl
str_free heap object v (Items items) next free = refl
str_free heap object v (Pairs pairs) next free = refl
str_free heap object v (Range start stop step) next free = refl
str_free heap object v Other next free = refl

split_free : (heap : PlainHeap) (bytes separator : List ℕ) → (split_by heap bytes separator).visits ≡ 0
split_free heap bytes [] = refl
split_free heap bytes (byte ∷ separator) = new_texts_free heap (pieces_between 0 (byte ∷ separator) bytes)

free_str : (heap : PlainHeap) (method : Builtin) (object : Val) (bytes : List ℕ) (args : List Val) → (method ≡ builtins.StrJoin → ⊥) → (str_method heap method object bytes args).visits ≡ 0
free_str heap builtins.StrJoin object bytes args other = absurd (other refl)
free_str heap builtins.StrFind object bytes [] other = refl
free_str heap builtins.StrFind object bytes (v ∷ vs) other = str_free heap object v (shown heap v) (λ part. gives_number heap (checked (found_from 0 part bytes))) (λ part. gives_free heap (checked (found_from 0 part bytes)))
free_str heap builtins.StrStartsWith object bytes [] other = refl
free_str heap builtins.StrStartsWith object bytes (v ∷ vs) other = str_free heap object v (shown heap v) (λ part. gives (Truth (starts_with nat_eq bytes part)) heap) (λ part. refl)
free_str heap builtins.StrSplit object bytes [] other = new_texts_free heap (words_of bytes)
free_str heap builtins.StrSplit object bytes (v ∷ vs) other = str_free heap object v (shown heap v) (split_by heap bytes) (λ separator. split_free heap bytes separator)
free_str heap _ object bytes args other = refl

module _ (heap : PlainHeap) (method : Builtin) (args : List Val) (extend : method ≡ builtins.ListExtend → ⊥) (keys : method ≡ builtins.DictKeys → ⊥) (values : method ≡ builtins.DictValues → ⊥) (items : method ≡ builtins.DictItems → ⊥)
    (join : method ≡ builtins.StrJoin → ⊥) where
  shown_free : (object : Val) (s : Shown) → (method_shown heap method object args s).visits ≡ 0
  shown_free (At n) (Items xs) = free_list heap method n xs args extend
  shown_free (At n) (Pairs pairs) = free_dict heap method n pairs args keys values items
  shown_free object (Text bytes) = free_str heap method object bytes args join
  shown_free object _ = refl

  -- only `extend`, what lists a dict, and `join` make visits
  pub method_free : (object : Val) (given : List (Val × Val)) → (call_method heap method object args given).visits ≡ 0
  method_free object [] = unless_free heap (count_fault (counts_of method) (length args)) (method_shown heap method object args (shown heap object)) (shown_free object (shown heap object))
  method_free object (key ∷ others) = refl
