-- No change of a heap makes an empty tuple or text.
use Rattle.std.proofs.Common.{◌≡◌, ◌≤◌, ◌+◌, ℕ, zero, suc, ◌-◌, List, [], ◌∷◌, ◌++◌, map, length, Option, Some, None, Bool, true, false, cond, Result, Ok, Err, set, replicate, refl, sym, subst, inl, inr, arith, length-set, get_or-set_same, get_or-set_other}
use Rattle.std.specs.Prelude.{is_some, nat_lt, slice_set, slice_index}
use Rattle.std.specs.List.{remove, repeat}
use Rattle.std.proofs.lemmas.List.{get_or_past, get_or_append_left, get_or-append_right}
use Rattle.std.proofs.lemmas.Bool.{cases_eq, cases_lt}
use Rattle.bc_machine.specs.mpy_base.declared.kind.Kind.{Kind}
use Rattle.bc_machine.specs.mpy_base.World.{Object, ListObject, TupleObject, TextObject, DictObject, ExceptionObject, MethodObject, ModuleObject, object, placed, named, items_at, pairs_at, room_at, with_object, with_list, with_dict, with_place, with_names}
use Rattle.bc_machine.specs.mpy_base.Weights.{used, does_fit, more_cells, with_made, with_used, with_pairs, with_list_room, list_growth, dict_growth, grown_room, room_for, cells_of, bytes_of}
use Rattle.bc_machine.specs.mpy_base.Val.{Val, Nil, Str, At}
use Rattle.bc_machine.proofs.mpy_base_lemmas.Worlds.{object_nones}
use Rattle.bc_machine.specs.py_values.Shown.{PlainHeap, Shown, Number, Text, Tuple, Items, Pairs, Range, at_least_zero, shown}
use Rattle.bc_machine.specs.py_values.Keys.{key_of, value_of_key, with_key, without_key}
use Rattle.bc_machine.specs.py_values.Equality.{Walk}
use Rattle.bc_machine.specs.py_primitives.Outcome.{Stop, Outcome, gives, is_full, go_on_with, followed_by, after_answer, after_walk, making, making_text, making_tuple, making_list, making_texts, list_of, tuple_of, making_exception, fault_argument, making_fault}
use Rattle.bc_machine.specs.py_primitives.Faults.{Fault, fault_value, fault_kind}
use Rattle.bc_machine.specs.py_primitives.Iterables.{shown_item, item_of, over_items, items_in, shown_items, iterating, kept_items, length_of, place_at}
use Rattle.bc_machine.specs.py_primitives.Operators.{Operator, Add, Multiply, number_answer, gives_number, binary_shown, binary, extended_by, extend, in_place_shown, in_place, with_key_of}
use Rattle.bc_machine.specs.py_primitives.Uses.{at_found, at_shown, at_place, at_key, of_key, shown_at, get_item, put_pair, set_shown, set_item, delete_shown, delete_item, Attribute, Found, Method, Absent, attribute, gives_attribute, get_attr, set_in, set_attr, unpack_items, unpack}
use Rattle.bc_machine.proofs.py_effects_lemmas.Unchanged.{number_same}
use Rattle.snap_laws.specs.Filled.{IsFilled, AreFilled, bytes_in, text_bytes, HoldsBytes}

abbrev pub Obj : Type 0
Obj = Option (Object Val (List ℕ))

-- where no tuple or text of the old heap is empty, none of the new one is; and so of the bytes of its texts
pub record Filling (old new : PlainHeap) : Type 0 where
  pub by : AreFilled old → AreFilled new
  pub bytes : HoldsBytes old → HoldsBytes new

pub same : (h : PlainHeap) → Filling h h
same h = record { by = λ f. f; bytes = λ b. b }

pub on : (a b c : PlainHeap) → Filling a b → Filling b c → Filling a c
on a b c p q = record { by = λ f. q.by (p.by f); bytes = λ b. q.bytes (p.bytes b) }

-- the changes of a heap, one by one
set_object : (obs : List Obj) (n : ℕ) (o : Obj) → IsFilled o → ((m : ℕ) → IsFilled (object obs m)) → (m : ℕ) → IsFilled (object (set obs n o) m)
set_object obs n o i f m =
    elim (cases_eq m n) [
      | inl q ↦ subst (λ y. IsFilled (object (set obs n o) y)) (sym q)
          (elim (cases_lt n (length obs)) [
            | inl lt ↦ subst IsFilled (sym (get_or-set_same obs n o None lt)) i
            | inr ge ↦ subst IsFilled (sym (get_or_past (set obs n o) n None (omega (arith, ge, length-set obs n o)))) tt
          ])
      | inr ne ↦ subst IsFilled (sym (get_or-set_other obs n m o None ne)) (f m)
    ]

lighter : (obs : List Obj) (n : ℕ) (o : Obj) → bytes_in o ≤ bytes_in (object obs n) → text_bytes (set obs n o) ≤ text_bytes obs
lighter [] n o le = omega arith
lighter (x ∷ obs) zero o le = let r : bytes_in o + text_bytes obs ≤ bytes_in x + text_bytes obs = omega (arith, le) in r
lighter (x ∷ obs) (suc n) o le =
    let later : text_bytes (set obs n o) ≤ text_bytes obs = lighter obs n o le in
    let r : bytes_in x + text_bytes (set obs n o) ≤ bytes_in x + text_bytes obs = omega (arith, later) in
    r

-- an object in the place of one that has as many bytes at least
set_lighter : (h : PlainHeap) (n : ℕ) (o : Obj) → bytes_in o ≤ bytes_in (object h.objects n) → HoldsBytes h → HoldsBytes (record h { objects = set h.objects n o })
set_lighter h n o le b = record { held = omega (arith, b.held, lighter h.objects n o le) }

pub set_filled : (h : PlainHeap) (n : ℕ) (o : Obj) → IsFilled o → bytes_in o ≡ 0 → Filling h (record h { objects = set h.objects n o })
set_filled h n o i e = record { by = λ f. record { filled = set_object h.objects n o i f.filled }; bytes = set_lighter h n o (omega (arith, e)) }

append_bytes : (obs more : List Obj) → text_bytes (obs ++ more) ≡ text_bytes obs + text_bytes more
append_bytes [] more = let r : text_bytes more ≡ 0 + text_bytes more = omega arith in r
append_bytes (x ∷ obs) more =
    let later : text_bytes (obs ++ more) ≡ text_bytes obs + text_bytes more = append_bytes obs more in
    let r : bytes_in x + text_bytes (obs ++ more) ≡ bytes_in x + text_bytes obs + text_bytes more = omega (arith, later) in
    r

none_bytes : (n : ℕ) → text_bytes (replicate n None) ≡ 0
none_bytes zero = refl
none_bytes (suc n) = let later : text_bytes (replicate n None) ≡ 0 = none_bytes n in let r : 0 + text_bytes (replicate n None) ≡ 0 = omega (arith, later) in r

append_object : (obs more : List Obj) → ((m : ℕ) → IsFilled (object obs m)) → ((m : ℕ) → IsFilled (object more m)) → (m : ℕ) → IsFilled (object (obs ++ more) m)
append_object obs more f g m =
    elim (cases_lt m (length obs)) [
      | inl lt ↦ subst IsFilled (sym (get_or_append_left obs more None m lt)) (f m)
      | inr ge ↦ subst IsFilled (sym (get_or-append_right obs more (length obs) m None refl ge)) (g (m - length obs))
    ]

nones : (n m : ℕ) → IsFilled (object (replicate n None) m)
nones n m = subst IsFilled (sym (object_nones n m)) tt

one : (o : Object Val (List ℕ)) (n : ℕ) → IsFilled (Some o) → (m : ℕ) → IsFilled (object (Some o ∷ replicate n None) m)
one o n i zero = i
one o n i (suc m) = nones n m

made_bytes : (h : PlainHeap) (o : Object Val (List ℕ)) → HoldsBytes h → HoldsBytes (with_made h o)
made_bytes h o b =
    let rest : List Obj = replicate (more_cells o) None in
    let all : text_bytes (h.objects ++ (Some o ∷ rest)) ≡ text_bytes h.objects + (bytes_of o + text_bytes rest) = append_bytes h.objects (Some o ∷ rest) in
    let none : text_bytes rest ≡ 0 = none_bytes (more_cells o) in
    record { held = omega (arith, all, none, b.held) }

used_bytes : (h : PlainHeap) (cells : ℕ) → HoldsBytes h → HoldsBytes (with_used h cells)
used_bytes h cells b = record { held = omega (arith, append_bytes h.objects (replicate cells None), none_bytes cells, b.held) }

pub made_filled : (h : PlainHeap) (o : Object Val (List ℕ)) → IsFilled (Some o) → Filling h (with_made h o)
made_filled h o i = record { by = λ f. record { filled = append_object h.objects (Some o ∷ replicate (more_cells o) None) f.filled (one o (more_cells o) i) }; bytes = made_bytes h o }

pub used_filled : (h : PlainHeap) (cells : ℕ) → Filling h (with_used h cells)
used_filled h cells = record { by = λ f. record { filled = append_object h.objects (replicate cells None) f.filled (nones cells) }; bytes = used_bytes h cells }

pub grown_filled : (h : PlainHeap) (n cells : ℕ) (o : Object Val (List ℕ)) → IsFilled (Some o) → bytes_of o ≡ 0 → Filling h (with_object (with_used h cells) n o)
grown_filled h n cells o i e = on h (with_used h cells) _ (used_filled h cells) (set_filled (with_used h cells) n (Some o) i e)

placed_filled : (o : Obj) (file : List ℕ) (line : ℕ) (name : List ℕ) → IsFilled o → IsFilled (placed o file line name)
placed_filled (Some (ExceptionObject kind args f l n)) file line name i = tt
placed_filled _ file line name i = i

placed_bytes : (o : Obj) (file : List ℕ) (line : ℕ) (name : List ℕ) → bytes_in (placed o file line name) ≡ bytes_in o
placed_bytes (Some (ExceptionObject kind args f l n)) file line name = refl
placed_bytes _ file line name = refl

pub place_filled : (h : PlainHeap) (n : ℕ) (file : List ℕ) (line : ℕ) (name : List ℕ) → Filling h (with_place h n file line name)
place_filled h n file line name = record {
  by = λ f. record { filled = set_object h.objects n _ (placed_filled (object h.objects n) file line name (f.filled n)) f.filled };
  bytes = set_lighter h n _ (omega (arith, placed_bytes (object h.objects n) file line name));
}

named_filled : (o : Obj) (names : ℕ) → IsFilled o → IsFilled (named o names)
named_filled (Some (ModuleObject name old)) names i = tt
named_filled _ names i = i

named_bytes : (o : Obj) (names : ℕ) → bytes_in (named o names) ≡ bytes_in o
named_bytes (Some (ModuleObject name old)) names = refl
named_bytes _ names = refl

pub names_filled : (h : PlainHeap) (n names : ℕ) → Filling h (with_names h n names)
names_filled h n names = record {
  by = λ f. record { filled = set_object h.objects n _ (named_filled (object h.objects n) names (f.filled n)) f.filled };
  bytes = set_lighter h n _ (omega (arith, named_bytes (object h.objects n) names));
}

-- primitives
-- ==========

-- from this heap on
abbrev pub F : {A : Type 0} → PlainHeap → Outcome A → Type 0
F h o = Filling h o.heap

pub f_same : {A : Type 0} (h : PlainHeap) (o : Outcome A) → o.heap ≡ h → F h o
f_same h o e = subst (λ u. Filling h u) (sym e) (same h)

pub f_either : {A : Type 0} (h : PlainHeap) (b : Bool) (x y : Outcome A) → F h x → F h y → F h (cond b x y)
f_either h true x y p q = p
f_either h false x y p q = q

go_by : {A B : Type 0} (h h1 : PlainHeap) (r : Result A Stop) (n : ℕ) (next : A → PlainHeap → Outcome B) → Filling h h1 → ((a : A) → r ≡ Ok a → F h1 (next a h1)) → F h (go_on_with r h1 n next)
go_by h h1 (Ok a) n next p f = on h h1 _ p (f a refl)
go_by h h1 (Err stop) n next p f = p

pub f_followed : {A B : Type 0} (h : PlainHeap) (first : Outcome A) (next : A → PlainHeap → Outcome B) → F h first → ((a : A) → first.answer ≡ Ok a → F first.heap (next a first.heap)) → F h (followed_by first next)
f_followed h first next p f = go_by h first.heap first.answer first.visits next p f

answer_by : {A B : Type 0} (h : PlainHeap) (o : Option A) (next : A → Outcome B) → ((a : A) → F h (next a)) → F h (after_answer o h next)
answer_by h (Some a) next f = f a
answer_by h None next f = same h

pub f_walk : {A B : Type 0} (h : PlainHeap) (walk : Walk A) (next : A → Outcome B) → ((a : A) → F h (next a)) → F h (after_walk h walk next)
f_walk h walk next f = answer_by h walk.answer next f

-- makings
pub f_making : (h : PlainHeap) (o : Object Val (List ℕ)) → IsFilled (Some o) → F h (making h o)
f_making h o i = f_either h (does_fit h (cells_of o) (bytes_of o)) (gives (At (used h)) (with_made h o)) (is_full h (cells_of o) (bytes_of o)) (made_filled h o i) (same h)

pub f_text : (h : PlainHeap) (bytes : List ℕ) → F h (making_text h bytes)
f_text h [] = same h
f_text h (byte ∷ bytes) = f_making h (TextObject (byte ∷ bytes)) tt

pub f_tuple : (h : PlainHeap) (vs : List Val) → F h (making_tuple h vs)
f_tuple h [] = same h
f_tuple h (v ∷ vs) = f_making h (TupleObject (v ∷ vs)) tt

pub f_list : (h : PlainHeap) (vs : List Val) → F h (making_list h vs)
f_list h vs = f_making h (ListObject vs (room_for (length vs))) tt

pub f_texts : (h : PlainHeap) (texts : List (List ℕ)) → F h (making_texts h texts)
f_texts h [] = same h
f_texts h (text ∷ texts) =
    f_followed h (making_text h text) _ (f_text h text) (λ v e. f_followed (making_text h text).heap (making_texts (making_text h text).heap texts) _ (f_texts (making_text h text).heap texts) (λ vs q. same _))

pub f_exception : (h : PlainHeap) (kind : Kind) (items : List Val) → F h (making_exception h kind items)
f_exception h kind items = f_followed h (making_tuple h items) _ (f_tuple h items) (λ args e. f_making (making_tuple h items).heap (ExceptionObject kind args [] 0 []) tt)

argument_by : (h : PlainHeap) (f : Fault) (o : Option Val) → F h (fault_argument h f o)
argument_by h f (Some v) = same h
argument_by h f None = f_text h _

pub f_fault : (h : PlainHeap) (f : Fault) → F h (making_fault h f)
f_fault h f =
    let first = fault_argument h f (fault_value f) in
    f_followed h first (λ v behind. making_exception behind (fault_kind f) (v ∷ [])) (argument_by h f (fault_value f)) (λ v e. f_exception first.heap (fault_kind f) (v ∷ []))

pub f_list_of : (h : PlainHeap) (count : ℕ) (kept : PlainHeap → Outcome (List Val)) → ((h1 : PlainHeap) → F h1 (kept h1)) → F h (list_of h count kept)
f_list_of h count kept f =
    let first = making h (ListObject [] (room_for count)) in
    f_followed h first _ (f_making h (ListObject [] (room_for count)) tt) (λ v e.
    f_followed first.heap (kept first.heap) _ (f first.heap) (λ items q. set_filled (kept first.heap).heap (used h) _ tt refl))

-- some items
abbrev pub HasSome : {A : Type 0} → List A → Type 0
HasSome [] = ⊥
HasSome (x ∷ xs) = Unit {0}

filled_tuple : (items : List Val) → HasSome items → IsFilled (Some (TupleObject items))
filled_tuple [] i = absurd i
filled_tuple (x ∷ items) i = tt

pub f_tuple_of : (h : PlainHeap) (count : ℕ) (kept : PlainHeap → Outcome (List Val)) → ((h1 : PlainHeap) → F h1 (kept h1))
    → ((h1 : PlainHeap) (items : List Val) (less : ℕ) → count ≡ suc less → (kept h1).answer ≡ Ok items → HasSome items) → F h (tuple_of h count kept)
f_tuple_of h zero kept f some = same h
f_tuple_of h (suc count) kept f some =
    let o = TupleObject (Rattle.std.specs.Prelude.replicate (suc count) Nil) in
    let first = making h o in
    f_followed h first _ (f_making h o tt) (λ v e.
    f_followed first.heap (kept first.heap) _ (f first.heap) (λ items q. set_filled (kept first.heap).heap (used h) _ (filled_tuple items (some first.heap items count refl q)) refl))

-- what is kept of some items is some
second_some : (v : Val) (all : List Val) (h : PlainHeap) (n : ℕ) (r : Result (List Val) Stop) → (go_on_with r h n (λ vs last. gives (v ∷ vs) last)).answer ≡ Ok all → HasSome all
second_some v all h n (Ok vs) e = let same : v ∷ vs ≡ all = cc in subst HasSome same tt
second_some v all h n (Err stop) e = absurd cc

first_some : (texts : List (List ℕ)) (all : List Val) (h : PlainHeap) (n : ℕ) (r : Result Val Stop)
    → (go_on_with r h n (λ v behind. followed_by (making_texts behind texts) (λ vs last. gives (v ∷ vs) last))).answer ≡ Ok all → HasSome all
first_some texts all h n (Ok v) e = second_some v all (making_texts h texts).heap (making_texts h texts).visits (making_texts h texts).answer e
first_some texts all h n (Err stop) e = absurd cc

text_some : (h : PlainHeap) (items : List Val) (bytes : List ℕ) (all : List Val) → HasSome items → shown_items (Text bytes) ≡ Some items → (kept_items h items (Text bytes)).answer ≡ Ok all → HasSome all
text_some h items [] all i e q = let none : [] ≡ items = cc in absurd (subst HasSome (sym none) i)
text_some h items (byte ∷ bytes) all i e q = first_some (map (λ byte. byte ∷ []) bytes) all (making_text h (byte ∷ [])).heap (making_text h (byte ∷ [])).visits (making_text h (byte ∷ [])).answer q

ok_same : (items all : List Val) → HasSome items → (gives items (record { objects = []; bytes = 0; cell_size = 0; byte_size = 0 })).answer ≡ Ok all → HasSome all
ok_same items all i q = let same : items ≡ all = cc in subst HasSome same i

kept_some : (h : PlainHeap) (items : List Val) (s : Shown) (all : List Val) → HasSome items → shown_items s ≡ Some items → (kept_items h items s).answer ≡ Ok all → HasSome all
kept_some h items (Text bytes) all i e q = text_some h items bytes all i e q
kept_some h items _ all i e q = ok_same items all i q

some_of : (items : List Val) (less : ℕ) → length items ≡ suc less → HasSome items
some_of [] less e = absurd cc
some_of (x ∷ items) less e = tt

-- iterables
over_by : {A : Type 0} (h : PlainHeap) (v : Val) (o : Option (List Val)) (next : List Val → Outcome A) → ((items : List Val) → o ≡ Some items → F h (next items)) → F h (over_items h v o next)
over_by h v (Some items) next f = f items refl
over_by h v None next f = same h

pub f_iterating : {A : Type 0} (h : PlainHeap) (v : Val) (next : List Val → Outcome A) → ((items : List Val) → items_in h v ≡ Some items → F h (next items)) → F h (iterating h v next)
f_iterating h v next f = over_by h v (items_in h v) next f

pub f_items : (h : PlainHeap) (items : List Val) (s : Shown) → F h (kept_items h items s)
f_items h items (Text bytes) = f_texts h (map (λ byte. byte ∷ []) bytes)
f_items h items _ = same h

pub f_kept_tuple : (h : PlainHeap) (v : Val) (items : List Val) → items_in h v ≡ Some items → F h (tuple_of h (length items) (λ behind. kept_items behind items (shown h v)))
f_kept_tuple h v items e =
    f_tuple_of h (length items) (λ behind. kept_items behind items (shown h v)) (λ h1. f_items h1 items (shown h v)) (λ h1 all less q a. kept_some h1 items (shown h v) all (some_of items less q) e a)

item_by : (h : PlainHeap) (at : ℕ) (s : Shown) → F h (shown_item h at s)
item_by h at (Text bytes) = f_text h (slice_index bytes at ∷ [])
item_by h at (Tuple items) = same h
item_by h at (Items items) = same h
item_by h at (Pairs pairs) = same h
item_by h at (Range start stop step) = same h
item_by h at _ = same h

pub f_item : (h : PlainHeap) (v : Val) (at : ℕ) → F h (item_of h v at)
f_item h v at = item_by h at (shown h v)

-- operators
binary_by : (h : PlainHeap) (op : Operator) (a b : Val) (s t : Shown) → F h (binary_shown h op a b s t)
binary_by h op a b (Number x) (Number y) = f_same h (gives_number h (number_answer op x y)) (number_same h (number_answer op x y))
binary_by h Add a b (Text s) (Text t) = f_text h (s ++ t)
binary_by h Add a b (Tuple xs) (Tuple ys) = f_tuple h (xs ++ ys)
binary_by h Add a b (Items xs) (Items ys) = f_list h (xs ++ ys)
binary_by h Multiply a b (Text s) (Number n) = f_text h (repeat (at_least_zero n) s)
binary_by h Multiply a b (Number n) (Text s) = f_text h (repeat (at_least_zero n) s)
binary_by h Multiply a b (Tuple xs) (Number n) = f_tuple h (repeat (at_least_zero n) xs)
binary_by h Multiply a b (Number n) (Tuple xs) = f_tuple h (repeat (at_least_zero n) xs)
binary_by h Multiply a b (Items xs) (Number n) = f_list h (repeat (at_least_zero n) xs)
binary_by h Multiply a b (Number n) (Items xs) = f_list h (repeat (at_least_zero n) xs)
binary_by h op a b _ _ = same h

pub f_binary : (h : PlainHeap) (op : Operator) (a b : Val) → F h (binary h op a b)
f_binary h op a b = binary_by h op a b (shown h a) (shown h b)

extended : (h : PlainHeap) (n : ℕ) (v : Val) (items : List Val) → F h (extended_by h n v items)
extended h n v items =
    let total = length (items_at h n ++ items) in
    let roomy = with_list_room h n total in
    f_either h (does_fit h (list_growth h n total) 0) (followed_by (kept_items roomy items (shown h v)) (λ kept behind. gives (At n) (with_list behind n (items_at h n ++ kept)))) (is_full h (list_growth h n total) 0)
    (on h roomy _ (grown_filled h n (list_growth h n total) (ListObject (items_at h n) (grown_room h n total)) tt refl)
    (f_followed roomy (kept_items roomy items (shown h v)) _ (f_items roomy items (shown h v)) (λ kept e. set_filled (kept_items roomy items (shown h v)).heap n _ tt refl)))
    (same h)

pub f_extend : (h : PlainHeap) (n : ℕ) (v : Val) → F h (extend h n v)
f_extend h n v = f_iterating h v (extended_by h n v) (λ items e. extended h n v items)

in_place_by : (h : PlainHeap) (op : Operator) (a b : Val) (s : Shown) → F h (in_place_shown h op a b s)
in_place_by h Add (At n) b (Items items) = f_extend h n b
in_place_by h op a b _ = f_binary h op a b

pub f_in_place : (h : PlainHeap) (op : Operator) (a b : Val) → F h (in_place h op a b)
f_in_place h op a b = in_place_by h op a b (shown h a)

-- indexes
found_by : {A : Type 0} (h : PlainHeap) (v : Val) (o : Option ℕ) (next : ℕ → Outcome A) → ((at : ℕ) → F h (next at)) → F h (at_found h v o next)
found_by h v (Some at) next f = f at
found_by h v None next f = same h

place_by : {A : Type 0} (h : PlainHeap) (v index : Val) (s : Shown) (next : ℕ → Outcome A) → ((at : ℕ) → F h (next at)) → F h (at_shown h v index s next)
place_by h v index (Number z) next f = found_by h v (place_at (length_of h v) z) next f
place_by h v index _ next f = same h

pub f_place : {A : Type 0} (h : PlainHeap) (v index : Val) (next : ℕ → Outcome A) → ((at : ℕ) → F h (next at)) → F h (at_place h v index next)
f_place h v index next f = place_by h v index (shown h index) next f

pub f_key : {A : Type 0} (h : PlainHeap) (key : Val) (o : Outcome A) → F h o → F h (with_key_of h key o)
f_key h key o p = f_either h (is_some (key_of h key)) o _ p (same h)

key_found : {A : Type 0} (h : PlainHeap) (key : Val) (o : Option Val) (next : Val → Outcome A) → ((v : Val) → F h (next v)) → F h (at_key h key o next)
key_found h key (Some v) next f = f v
key_found h key None next f = same h

pub f_of_key : {A : Type 0} (h : PlainHeap) (pairs : List (Val × Val)) (key : Val) (next : Val → Outcome A) → ((v : Val) → F h (next v)) → F h (of_key h pairs key next)
f_of_key h pairs key next f = f_key h key (at_key h key (value_of_key h pairs key) next) (key_found h key (value_of_key h pairs key) next f)

get_by : (h : PlainHeap) (v index : Val) (s : Shown) → F h (shown_at h v index s)
get_by h v index (Pairs pairs) = f_of_key h pairs index _ (λ found. same h)
get_by h v index (Text bytes) = f_place h v index (item_of h v) (λ at. f_item h v at)
get_by h v index (Tuple items) = f_place h v index (item_of h v) (λ at. f_item h v at)
get_by h v index (Items items) = f_place h v index (item_of h v) (λ at. f_item h v at)
get_by h v index (Range start stop step) = f_place h v index (item_of h v) (λ at. f_item h v at)
get_by h v index _ = same h

pub f_get : (h : PlainHeap) (v index : Val) → F h (get_item h v index)
f_get h v index = get_by h v index (shown h v)

pub f_put : (h : PlainHeap) (dict : ℕ) (key v : Val) → F h (put_pair h dict key v)
f_put h dict key v =
    let pairs = with_key h (pairs_at h dict) key v in
    f_either h (does_fit h (dict_growth h dict (length pairs)) 0) (gives Nil (with_pairs h dict pairs)) (is_full h (dict_growth h dict (length pairs)) 0)
    (grown_filled h dict (dict_growth h dict (length pairs)) (DictObject pairs (grown_room h dict (length pairs))) tt refl) (same h)

pub f_with_list : (h : PlainHeap) (n : ℕ) (items : List Val) → Filling h (with_list h n items)
f_with_list h n items = set_filled h n (Some (ListObject items (room_at h n))) tt refl

pub f_with_dict : (h : PlainHeap) (n : ℕ) (pairs : List (Val × Val)) → Filling h (with_dict h n pairs)
f_with_dict h n pairs = set_filled h n (Some (DictObject pairs (room_at h n))) tt refl

set_by : (h : PlainHeap) (o index v : Val) (s : Shown) → F h (set_shown h o index v s)
set_by h (At n) index v (Pairs pairs) = f_key h index (put_pair h n index v) (f_put h n index v)
set_by h (At n) index v (Items items) = f_place h (At n) index _ (λ at. f_with_list h n (slice_set items at v))
set_by h o index v _ = same h

pub f_set : (h : PlainHeap) (o index v : Val) → F h (set_item h o index v)
f_set h o index v = set_by h o index v (shown h o)

delete_by : (h : PlainHeap) (o index : Val) (s : Shown) → F h (delete_shown h o index s)
delete_by h (At n) index (Pairs pairs) = f_of_key h pairs index _ (λ found. f_with_dict h n (without_key h pairs index))
delete_by h (At n) index (Items items) = f_place h (At n) index _ (λ at. f_with_list h n (remove items at))
delete_by h o index _ = same h

pub f_delete : (h : PlainHeap) (o index : Val) → F h (delete_item h o index)
f_delete h o index = delete_by h o index (shown h o)

-- attributes
attribute_by : (h : PlainHeap) (v : Val) (name : List ℕ) (a : Attribute) → F h (gives_attribute h v name a)
attribute_by h v name (Found u) = same h
attribute_by h v name (Method m) = f_making h (MethodObject v m) tt
attribute_by h v name Absent = same h

pub f_get_attr : (h : PlainHeap) (v : Val) (name : List ℕ) → F h (get_attr h v name)
f_get_attr h v name = attribute_by h v name (attribute h v name)

in_by : (h : PlainHeap) (n : ℕ) (name : List ℕ) (v : Val) (o : Obj) → object h.objects n ≡ o → F h (set_in h (At n) name v o)
in_by h n name v (Some (ModuleObject own (Some names))) e = f_put h names (Str name) v
in_by h n name v _ e = same h

pub f_set_attr : (h : PlainHeap) (o : Val) (name : List ℕ) (v : Val) → F h (set_attr h o name v)
f_set_attr h (At n) name v = in_by h n name v (object h.objects n) refl
f_set_attr h o name v = same h

unpacked_by : (h : PlainHeap) (want : ℕ) (v : Val) (items : List Val) → F h (unpack_items h want v items)
unpacked_by h want v items = f_either h (nat_lt (length items) want) _ _ (same h) (f_either h (nat_lt want (length items)) _ _ (same h) (f_items h items (shown h v)))

pub f_unpack : (h : PlainHeap) (want : ℕ) (v : Val) → F h (unpack h want v)
f_unpack h want v = f_iterating h v (unpack_items h want v) (λ items e. unpacked_by h want v items)
