-- Visits of calls that only make.
use Rattle.std.proofs.Common.{◌≡◌, ℕ, List, [], ◌∷◌, ◌++◌, length, map, Bool, true, false, cond, Result, Ok, Err, refl, ◌∙◌, arith}
use Rattle.std.specs.Prelude.{if◌then◌else◌}
use Rattle.std.proofs.lemmas.List.{length-map}
use Rattle.std.proofs.lemmas.List.FromFn.{length-map-range_with_len}
use Rattle.mpy_base.specs.World.{Object, ListObject, TupleObject, TextObject, items_at, with_list}
use Rattle.mpy_base.specs.Weights.{used, does_fit, cells_of, bytes_of, list_growth, room_for, with_made, with_list_room}
use Rattle.mpy_base.specs.Val.{Val, Nil, Int, At}
use Rattle.prim_builtins.specs.py_values.Shown.{PlainHeap, Shown, Nothing, Number, Text, Tuple, Items, Pairs, Range, Other, shown, range_len}
use Rattle.prim_builtins.specs.py_primitives.Outcome.{Outcome, Stop, gives, is_full, with_visits, go_on_with, followed_by, making, making_text, making_texts, making_tuple, list_of}
use Rattle.prim_builtins.specs.py_primitives.Iterables.{letter, range_number, range_numbers, shown_items, shown_length, length_of, over_items, kept_items}
use Rattle.prim_builtins.specs.py_primitives.Operators.{extend}
use Rattle.prim_builtins.specs.py_primitives.Methods.{making_pairs}

tested : (heap : PlainHeap) (o : Object Val (List ℕ)) (b : Bool) → (cond b (gives (At (used heap)) (with_made heap o)) (is_full heap (cells_of o) (bytes_of o))).visits ≡ 0
tested heap o true = refl
tested heap o false = refl

making_visits : (heap : PlainHeap) (o : Object Val (List ℕ)) → (making heap o).visits ≡ 0
making_visits heap o = tested heap o (does_fit heap (cells_of o) (bytes_of o))

go_visits : {A B : Type 0} (r : Result A Stop) (heap : PlainHeap) (n : ℕ) (next : A → PlainHeap → Outcome B) → ((a : A) (w : PlainHeap) → (next a w).visits ≡ 0) → (go_on_with r heap n next).visits ≡ n
go_visits (Ok a) heap n next z = let e = z a heap in omega (arith, e)
go_visits (Err stop) heap n next z = refl

-- what comes next visits nothing
followed_visits : {A B : Type 0} (first : Outcome A) (next : A → PlainHeap → Outcome B) → ((a : A) (w : PlainHeap) → (next a w).visits ≡ 0) → (followed_by first next).visits ≡ first.visits
followed_visits first next z = go_visits first.answer first.heap first.visits next z

text_visits : (heap : PlainHeap) (bytes : List ℕ) → (making_text heap bytes).visits ≡ 0
text_visits heap [] = refl
text_visits heap (byte ∷ bytes) = making_visits heap (TextObject (byte ∷ bytes))

texts_visits : (heap : PlainHeap) (ts : List (List ℕ)) → (making_texts heap ts).visits ≡ 0
texts_visits heap [] = refl
texts_visits heap (t ∷ ts) =
    followed_visits (making_text heap t) (λ (v : Val) (behind : PlainHeap). followed_by (making_texts behind ts) (λ (vs : List Val) (last : PlainHeap). gives (v ∷ vs) last))
    (λ v w. followed_visits (making_texts w ts) (λ (vs : List Val) (last : PlainHeap). gives (v ∷ vs) last) (λ vs last. refl) ∙ texts_visits w ts)
    ∙ text_visits heap t

kept_visits : (heap : PlainHeap) (items : List Val) (s : Shown) → (kept_items heap items s).visits ≡ 0
kept_visits heap items (Text bytes) = texts_visits heap (map (λ byte. byte ∷ []) bytes)
kept_visits heap items Nothing = refl
kept_visits heap items (Number z) = refl
kept_visits heap items (Tuple vs) = refl
kept_visits heap items (Items vs) = refl
kept_visits heap items (Pairs pairs) = refl
kept_visits heap items (Range start stop step) = refl
kept_visits heap items Other = refl

pairs_visits : (heap : PlainHeap) (pairs : List (Val × Val)) → (making_pairs heap pairs).visits ≡ 0
pairs_visits heap [] = refl
pairs_visits heap (pair ∷ pairs) =
    followed_visits (making_tuple heap (pair.0 ∷ pair.1 ∷ [])) (λ (v : Val) (behind : PlainHeap). followed_by (making_pairs behind pairs) (λ (vs : List Val) (last : PlainHeap). gives (v ∷ vs) last))
    (λ v w. followed_visits (making_pairs w pairs) (λ (vs : List Val) (last : PlainHeap). gives (v ∷ vs) last) (λ vs last. refl) ∙ pairs_visits w pairs)
    ∙ making_visits heap (TupleObject (pair.0 ∷ pair.1 ∷ []))

-- a list of tuples of what a dict has
pub items_visits : (heap : PlainHeap) (pairs : List (Val × Val)) → (list_of heap (length pairs) (λ behind. making_pairs behind pairs)).visits ≡ 0
items_visits heap pairs =
    followed_visits (making heap (ListObject [] (room_for (length pairs)))) (λ (made : Val) (behind : PlainHeap). followed_by (making_pairs behind pairs) (λ (items : List Val) (last : PlainHeap). gives made (with_list last (used heap) items)))
    (λ made w. followed_visits (making_pairs w pairs) (λ (items : List Val) (last : PlainHeap). gives made (with_list last (used heap) items)) (λ items last. refl) ∙ pairs_visits w pairs)
    ∙ making_visits heap (ListObject [] (room_for (length pairs)))

module _ (heap : PlainHeap) (list : ℕ) where
  abbrev keeping : List Val → Shown → Outcome Val
  keeping items s =
      followed_by (kept_items (with_list_room heap list (length (items_at heap list ++ items))) items s) (λ (kept : List Val) (behind : PlainHeap). gives (At list) (with_list behind list (items_at heap list ++ kept)))

  keeping_visits : (items : List Val) (s : Shown) → (keeping items s).visits ≡ 0
  keeping_visits items s =
      followed_visits (kept_items (with_list_room heap list (length (items_at heap list ++ items))) items s) _ (λ kept behind. refl)
      ∙ kept_visits (with_list_room heap list (length (items_at heap list ++ items))) items s

  either_visits : (items : List Val) (s : Shown) (cells : ℕ) (b : Bool) → (cond b (keeping items s) (is_full heap cells 0)).visits ≡ 0
  either_visits items s cells true = keeping_visits items s
  either_visits items s cells false = refl

  abbrev taking : List Val → Shown → Outcome Val
  taking items s =
      let cells = list_growth heap list (length (items_at heap list ++ items)) in
      with_visits (length items) (if does_fit heap cells 0 then keeping items s else is_full heap cells 0)

  taking_visits : (items : List Val) (s : Shown) → (taking items s).visits ≡ length items
  taking_visits items s =
      let cells = list_growth heap list (length (items_at heap list ++ items)) in
      let none = either_visits items s cells (does_fit heap cells 0) in
      omega (arith, none)

  abbrev over : Val → Shown → Outcome Val
  over v s = over_items heap v (shown_items s) (λ (items : List Val). taking items s)

  over_visits : (v : Val) (s : Shown) → (over v s).visits ≡ shown_length s
  over_visits v (Text bytes) = taking_visits (map letter bytes) (Text bytes) ∙ length-map bytes letter
  over_visits v (Tuple items) = taking_visits items (Tuple items)
  over_visits v (Items items) = taking_visits items (Items items)
  over_visits v (Pairs pairs) = taking_visits (map (λ (q : Val × Val). q.0) pairs) (Pairs pairs) ∙ length-map pairs (λ (q : Val × Val). q.0)
  over_visits v (Range start stop step) =
      taking_visits (range_numbers start stop step) (Range start stop step) ∙ length-map-range_with_len (λ (at : ℕ). Int (range_number start step at)) 0 (range_len start stop step)
  over_visits v Nothing = refl
  over_visits v (Number z) = refl
  over_visits v Other = refl

  -- a list that is extended
  pub extend_visits : (v : Val) → (followed_by (extend heap list v) (λ (extended : Val) (behind : PlainHeap). gives Nil behind)).visits ≡ length_of heap v
  extend_visits v = followed_visits (extend heap list v) (λ (extended : Val) (behind : PlainHeap). gives Nil behind) (λ extended behind. refl) ∙ over_visits v (shown heap v)
