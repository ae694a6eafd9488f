-- Calls of methods of lists, dicts and strs.
use Rattle.std.specs.Prelude.{ℕ, zero, suc, ◌+◌, ◌-◌, ℤ, pos, negsuc, List, [], ◌∷◌, ◌++◌, length, map, filter, insert, Bool, not}
use Rattle.std.specs.Prelude.{◌&&◌, ◌||◌, Option, Some, None, nat_eq, nat_le, slice_get, codes, if◌then◌else◌}
use Rattle.std.specs.List.{remove, starts_with, slice_split, onto_first}
use Rattle.std.specs.Option.{option_map}
use Rattle.py_values.specs.mpy_base.declared.builtin.Builtin.{Builtin}
use Rattle.py_values.specs.mpy_base.declared.builtin.Builtin.TheVariants as builtins
use Rattle.py_values.specs.mpy_base.World.{with_list, with_dict}
use Rattle.py_values.specs.mpy_base.Weights.{does_fit, list_growth, with_items}
use Rattle.py_values.specs.mpy_base.Val.{Val, Nil, Truth, Int, At}
use Rattle.py_values.specs.Shown.{PlainHeap, Shown, Text, Items, Pairs, shown, is_empty}
use Rattle.py_values.specs.Keys.{value_of_key, without_key}
use Rattle.py_values.specs.Equality.{Walk, answers, visit}
use Rattle.py_values.specs.Small.{checked}
use Rattle.py_primitives.specs.Walks.{walk_map}
use Rattle.py_primitives.specs.Texts.{joined}
use Rattle.py_primitives.specs.Faults.{NoKeywords, EmptyList, NoKey, JoinsNoStr, EmptySeparator}
use Rattle.py_primitives.specs.Outcome.{Outcome, gives, raises, is_full, with_visits, followed_by, after_walk, making_text}
use Rattle.py_primitives.specs.Outcome.{making_texts, making_tuple, making_list, list_of}
use Rattle.py_primitives.specs.Iterables.{iterating, or_nil, place_before}
use Rattle.py_primitives.specs.Operators.{unsupported, gives_number, extend, with_key_of}
use Rattle.py_primitives.specs.Uses.{at_place}
use Rattle.py_primitives.specs.Calls.{counts_of, count_fault, unless_fault, with_number}

-- lists
-- =====

-- a list that has these items from now on. More than its room holds ask for the next
abbrev pub put_items : PlainHeap → ℕ → List Val → Outcome Val
put_items heap list items =
    if does_fit heap (list_growth heap list (length items)) 0
    then gives Nil (with_items heap list items)
    else is_full heap (list_growth heap list (length items)) 0

-- the item at a place, which is taken out of the list
abbrev pub pop_at : PlainHeap → ℕ → List Val → ℕ → Outcome Val
pop_at heap list items at = gives (or_nil (slice_get items at)) (with_list heap list (remove items at))

-- `pop` with an index
abbrev pub pop_from : PlainHeap → ℕ → List Val → Val → Outcome Val
pop_from heap list [] index = raises EmptyList heap
pop_from heap list items index = at_place heap (At list) index (pop_at heap list items)

-- the last item, where no index is given
abbrev pub pop : PlainHeap → ℕ → List Val → List Val → Outcome Val
pop heap list items [] = pop_from heap list items (Int (negsuc 0))
pop heap list items (index ∷ _) = with_number heap index (λ z. pop_from heap list items (Int z))

-- `insert`
abbrev pub insert_item : PlainHeap → ℕ → List Val → Val → Val → Outcome Val
insert_item heap list items index v = with_number heap index (λ z. put_items heap list (insert items (place_before (length items) z) v))

-- a method of a list, with as many arguments as it takes
abbrev pub list_method : PlainHeap → Builtin → ℕ → List Val → List Val → Outcome Val
list_method heap builtins.ListAppend list items (v ∷ _) = put_items heap list (items ++ v ∷ [])
list_method heap builtins.ListPop list items args = pop heap list items args
list_method heap builtins.ListInsert list items (index ∷ v ∷ _) = insert_item heap list items index v
list_method heap builtins.ListExtend list items (v ∷ _) = followed_by (extend heap list v) (λ extended behind. gives Nil behind)
list_method heap _ list items _ = gives Nil heap

-- dicts
-- =====

-- the value of a key, and else the second argument, if there is one
abbrev pub get_or : Option Val → List Val → Val
get_or (Some v) _ = v
get_or None [] = Nil
get_or None (v ∷ _) = v

-- `pop` of a dict: the value of the key, which is taken out, else the second argument, else a fault
abbrev pub pop_found : PlainHeap → ℕ → List (Val × Val) → Val → List Val → Option Val → Outcome Val
pop_found heap dict pairs key others (Some v) = gives v (with_dict heap dict (without_key heap pairs key))
pop_found heap dict pairs key (v ∷ _) None = gives v heap
pop_found heap dict pairs key [] None = raises (NoKey key) heap

-- a new list of what a dict has, each of which is one visit
abbrev pub dict_list : PlainHeap → List Val → Outcome Val
dict_list heap items = with_visits (length items) (making_list heap items)

-- a tuple is made for each pair
abbrev pub making_pairs : PlainHeap → List (Val × Val) → Outcome (List Val)
making_pairs heap [] = gives [] heap
making_pairs heap (pair ∷ pairs) =
    followed_by (making_tuple heap (pair.0 ∷ pair.1 ∷ [])) (λ v behind. followed_by (making_pairs behind pairs) (λ vs last. gives (v ∷ vs) last))

-- a method of a dict, with as many arguments as it takes
abbrev pub dict_method : PlainHeap → Builtin → ℕ → List (Val × Val) → List Val → Outcome Val
dict_method heap builtins.DictGet dict pairs (key ∷ others) = with_key_of heap key (gives (get_or (value_of_key heap pairs key) others) heap)
dict_method heap builtins.DictPop dict pairs (key ∷ others) = with_key_of heap key (pop_found heap dict pairs key others (value_of_key heap pairs key))
dict_method heap builtins.DictKeys dict pairs _ = dict_list heap (map (λ pair. pair.0) pairs)
dict_method heap builtins.DictValues dict pairs _ = dict_list heap (map (λ pair. pair.1) pairs)
dict_method heap builtins.DictItems dict pairs _ = with_visits (length pairs) (list_of heap (length pairs) (λ behind. making_pairs behind pairs))
dict_method heap _ dict pairs _ = gives Nil heap

-- strs
-- ====

-- the bytes of a str
abbrev pub str_in : Shown → Option (List ℕ)
str_in (Text bytes) = Some bytes
str_in _ = None

-- a str in front of the others
abbrev pub part_behind : Option (List ℕ) → Walk (Option (List (List ℕ))) → Walk (Option (List (List ℕ)))
part_behind (Some bytes) rest = walk_map (option_map (λ parts. bytes ∷ parts)) rest
part_behind None rest = answers None

-- the strs among values that are joined, up to the first that is none
abbrev pub parts_of : PlainHeap → List Val → Walk (Option (List (List ℕ)))
parts_of heap [] = answers (Some [])
parts_of heap (v ∷ vs) = visit (part_behind (str_in (shown heap v)) (parts_of heap vs))

-- a text of the joined strs, or the fault that one of the values is none
abbrev pub gives_joined : PlainHeap → List ℕ → Option (List (List ℕ)) → Outcome Val
gives_joined heap bytes (Some parts) = making_text heap (joined bytes parts)
gives_joined heap bytes None = raises JoinsNoStr heap

-- the first place where a part stands, counted from a place
abbrev pub found_from : ℕ → List ℕ → List ℕ → ℤ
found_from at part [] = if is_empty part then pos at else negsuc 0
found_from at part (byte ∷ bytes) = if starts_with nat_eq (byte ∷ bytes) part then pos at else found_from (at + 1) part bytes

-- the pieces between separators. The first argument is how many bytes of a separator still come
abbrev pub pieces_between : ℕ → List ℕ → List ℕ → List (List ℕ)
pieces_between _ separator [] = [] ∷ []
pieces_between (suc rest) separator (byte ∷ bytes) = pieces_between rest separator bytes
pieces_between zero separator (byte ∷ bytes) =
    if starts_with nat_eq (byte ∷ bytes) separator
    then [] ∷ pieces_between (length separator - 1) separator bytes
    else onto_first byte (pieces_between zero separator bytes)

-- tab, line feed, vertical tab, form feed, carriage return and the blank
abbrev pub is_space : ℕ → Bool
is_space byte = nat_eq byte 32 || (nat_le 9 byte && nat_le byte 13)

-- the pieces between runs of those
abbrev pub words_of : List ℕ → List (List ℕ)
words_of bytes = filter (λ piece. not (is_empty piece)) (slice_split is_space bytes)

-- a new list of texts
abbrev pub list_of_texts : PlainHeap → List (List ℕ) → Outcome Val
list_of_texts heap texts = list_of heap (length texts) (λ behind. making_texts behind texts)

-- what follows on an argument that is a str
abbrev pub of_str : {A : Type 0} → PlainHeap → Val → Val → Shown → (List ℕ → Outcome A) → Outcome A
of_str heap object v (Text bytes) next = next bytes
of_str heap object v _ next = unsupported heap (codes "__contains__") object v

-- `split` with a separator, which isn't empty
abbrev pub split_by : PlainHeap → List ℕ → List ℕ → Outcome Val
split_by heap bytes [] = raises EmptySeparator heap
split_by heap bytes (byte ∷ separator) = list_of_texts heap (pieces_between 0 (byte ∷ separator) bytes)

-- a method of a str, with as many arguments as it takes
abbrev pub str_method : PlainHeap → Builtin → Val → List ℕ → List Val → Outcome Val
str_method heap builtins.StrJoin object bytes (v ∷ _) = iterating heap v (λ items. after_walk heap (parts_of heap items) (gives_joined heap bytes))
str_method heap builtins.StrFind object bytes (v ∷ _) = of_str heap object v (shown heap v) (λ part. gives_number heap (checked (found_from 0 part bytes)))
str_method heap builtins.StrStartsWith object bytes (v ∷ _) = of_str heap object v (shown heap v) (λ part. gives (Truth (starts_with nat_eq bytes part)) heap)
str_method heap builtins.StrSplit object bytes [] = list_of_texts heap (words_of bytes)
str_method heap builtins.StrSplit object bytes (v ∷ _) = of_str heap object v (shown heap v) (split_by heap bytes)
str_method heap _ object bytes _ = gives Nil heap

-- all of them
-- ===========

-- a method, by what a program can see of its object
abbrev pub method_shown : PlainHeap → Builtin → Val → List Val → Shown → Outcome Val
method_shown heap method (At n) args (Items items) = list_method heap method n items args
method_shown heap method (At n) args (Pairs pairs) = dict_method heap method n pairs args
method_shown heap method object args (Text bytes) = str_method heap method object bytes args
method_shown heap method object args _ = gives Nil heap

-- a method of an object of its type. Keyword arguments are refused first, and then the count is judged
abbrev pub call_method : PlainHeap → Builtin → Val → List Val → List (Val × Val) → Outcome Val
call_method heap method object args [] =
    unless_fault heap (count_fault (counts_of method) (length args)) (method_shown heap method object args (shown heap object))
call_method heap method object args (_ ∷ _) = raises NoKeywords heap
