-- What a container has in it.
use Rattle.std.proofs.Common.{◌≡◌, ℕ, ℤ, w32, to_z, of_z, List, map, Bool, true, false, cond, Option, refl, sym, ap, ◌∙◌}
use Rattle.std.specs.Prelude.{codes, is_some}
use Rattle.prim_faults.specs.arena_heap.declared.value.Value.{Value}
use Rattle.prim_faults.specs.arena_heap.declared.value.StrNo.{StrNo}
use Rattle.prim_faults.specs.arena_heap.declared.value.ConstNo.{ConstNo}
use Rattle.prim_faults.specs.arena_heap.declared.value.DictNo.{DictNo}
use Rattle.prim_faults.specs.prim_walks.Plain.{plain_pair}
use Rattle.prim_faults.specs.mpy_base.World.{Heap, pairs_at}
use Rattle.prim_faults.specs.mpy_base.Val.{Val, Truth}
use Rattle.prim_faults.specs.py_values.Shown.{PlainHeap, Shown, Nothing, Number, Text, Tuple, Items, Pairs, Range, Other}
use Rattle.prim_faults.specs.py_values.Keys.{key_of, value_of_key}
use Rattle.prim_faults.specs.py_primitives.Outcome.{Outcome, gives, raises}
use Rattle.prim_faults.specs.py_primitives.Faults.{UnsupportedOne}
use Rattle.prim_faults.specs.py_values.Names.{type_name}
use Rattle.prim_faults.specs.py_primitives.Operators.{contains_shown, unsupported, with_key_of}
use Rattle.prim_faults.specs.prim_walks.declared.look.Look.{Look}
use Rattle.prim_faults.specs.prim_walks.declared.look.Look.TheVariants as looks
use Rattle.prim_faults.specs.arena_heap.Values.{IsSmall}
use Rattle.prim_faults.proofs.arena_objects_lemmas.RangeNumbers.{small_same}
use Rattle.prim_faults.specs.prim_walks.Looks.{seen}
use Rattle.prim_comparisons.specs.Operands.{is_number_within}

-- numbers of the code, as they are
pub number_same : (s : Shown) (start stop step : ℤ) → IsSmall start → IsSmall stop → IsSmall step
    → is_number_within s (to_z w32 (of_z w32 start)) (to_z w32 (of_z w32 stop)) (to_z w32 (of_z w32 step)) ≡ is_number_within s start stop step
number_same s start stop step p q r =
    ap (λ (z : ℤ). is_number_within s z (to_z w32 (of_z w32 stop)) (to_z w32 (of_z w32 step))) (small_same start p)
    ∙ (ap (λ (z : ℤ). is_number_within s start z (to_z w32 (of_z w32 step))) (small_same stop q) ∙ ap (λ (z : ℤ). is_number_within s start stop z) (small_same step r))

module _ (heap : PlainHeap) (v container : Val) where
  -- a range has numbers alone
  pub range_contains : (s : Shown) (start stop step : ℤ) → contains_shown heap v container s (Range start stop step) ≡ gives (Truth (is_number_within s start stop step)) heap
  range_contains Nothing start stop step = refl
  range_contains (Number z) start stop step = refl
  range_contains (Text bytes) start stop step = refl
  range_contains (Tuple items) start stop step = refl
  range_contains (Items items) start stop step = refl
  range_contains (Pairs pairs) start stop step = refl
  range_contains (Range first last way) start stop step = refl
  range_contains Other start stop step = refl

  module _ (texts : StrNo → Option (List ℕ)) (tuples : ConstNo → Option (List Value)) (h : Heap Value ℕ) where
    -- a str has strs alone
    pub text_refuses : (look : Look) (w : Value) (s : Shown) (bytes : List ℕ) → ((part : _) → look ≡ looks.Text part → ⊥) → seen texts tuples h w look ≡ s
        → contains_shown heap v container s (Text bytes) ≡ unsupported heap (codes "__contains__") container v
    text_refuses looks.Nothing w s bytes apart is = sym (ap (λ (t : Shown). contains_shown heap v container t (Text bytes)) is)
    text_refuses (looks.Number z) w s bytes apart is = sym (ap (λ (t : Shown). contains_shown heap v container t (Text bytes)) is)
    text_refuses (looks.Text part) w s bytes apart is = absurd (apart part refl)
    text_refuses (looks.Tuple count) w s bytes apart is = sym (ap (λ (t : Shown). contains_shown heap v container t (Text bytes)) is)
    text_refuses (looks.Items count) w s bytes apart is = sym (ap (λ (t : Shown). contains_shown heap v container t (Text bytes)) is)
    text_refuses (looks.Pairs d) w s bytes apart is = sym (ap (λ (t : Shown). contains_shown heap v container t (Text bytes)) is)
    text_refuses (looks.Range start stop step) w s bytes apart is = sym (ap (λ (t : Shown). contains_shown heap v container t (Text bytes)) is)
    text_refuses looks.Other w s bytes apart is = sym (ap (λ (t : Shown). contains_shown heap v container t (Text bytes)) is)

    -- what is no container
    pub refuses : (look : Look) (w : Value) (it s : Shown) → ((n : ℕ) → look ≡ looks.Tuple n → ⊥) → ((n : ℕ) → look ≡ looks.Items n → ⊥) → ((d : DictNo) → look ≡ looks.Pairs d → ⊥)
        → ((start stop step : ℤ) → look ≡ looks.Range start stop step → ⊥) → ((bytes : _) → look ≡ looks.Text bytes → ⊥) → seen texts tuples h w look ≡ s
        → contains_shown heap v container it s ≡ unsupported heap (codes "__contains__") container v
    refuses looks.Nothing w it s a b c d e is = sym (ap (λ (t : Shown). contains_shown heap v container it t) is)
    refuses (looks.Number z) w it s a b c d e is = sym (ap (λ (t : Shown). contains_shown heap v container it t) is)
    refuses (looks.Text bytes) w it s a b c d e is = absurd (e bytes refl)
    refuses (looks.Tuple n) w it s a b c d e is = absurd (a n refl)
    refuses (looks.Items n) w it s a b c d e is = absurd (b n refl)
    refuses (looks.Pairs dict) w it s a b c d e is = absurd (c dict refl)
    refuses (looks.Range start stop step) w it s a b c d e is = absurd (d start stop step refl)
    refuses looks.Other w it s a b c d e is = sym (ap (λ (t : Shown). contains_shown heap v container it t) is)

  keyed_free : (b : Bool) (pairs : List (Val × Val)) → is_some (key_of heap v) ≡ b → (with_key_of heap v (gives (Truth (is_some (value_of_key heap pairs v))) heap)).visits ≡ 0
  keyed_free b pairs e = ap (λ (t : Bool). (cond t (gives (Truth (is_some (value_of_key heap pairs v))) heap) (raises {A = Val} (UnsupportedOne (codes "__hash__") (type_name heap v)) heap)).visits) e ∙ either b
    where
      either : (t : Bool) → (cond t (gives (Truth (is_some (value_of_key heap pairs v))) heap) (raises {A = Val} (UnsupportedOne (codes "__hash__") (type_name heap v)) heap)).visits ≡ 0
      either true = refl
      either false = refl

  text_free : (s : Shown) (bytes : List ℕ) → (contains_shown heap v container s (Text bytes)).visits ≡ 0
  text_free Nothing bytes = refl
  text_free (Number z) bytes = refl
  text_free (Text part) bytes = refl
  text_free (Tuple items) bytes = refl
  text_free (Items items) bytes = refl
  text_free (Pairs pairs) bytes = refl
  text_free (Range start stop step) bytes = refl
  text_free Other bytes = refl

  module _ (texts : StrNo → Option (List ℕ)) (tuples : ConstNo → Option (List Value)) (h : Heap Value ℕ) where
    -- only the items of tuples and lists are visited
    pub contains_free : (look : Look) (w : Value) (it s : Shown) → ((n : ℕ) → look ≡ looks.Tuple n → ⊥) → ((n : ℕ) → look ≡ looks.Items n → ⊥) → seen texts tuples h w look ≡ s
        → (contains_shown heap v container it s).visits ≡ 0
    contains_free looks.Nothing w it s a b is = sym (ap (λ (t : Shown). (contains_shown heap v container it t).visits) is)
    contains_free (looks.Number z) w it s a b is = sym (ap (λ (t : Shown). (contains_shown heap v container it t).visits) is)
    contains_free (looks.Text bytes) w it s a b is = sym (ap (λ (t : Shown). (contains_shown heap v container it t).visits) is) ∙ text_free it bytes.now
    contains_free (looks.Tuple n) w it s a b is = absurd (a n refl)
    contains_free (looks.Items n) w it s a b is = absurd (b n refl)
    contains_free (looks.Pairs d) w it s a b is =
        sym (ap (λ (t : Shown). (contains_shown heap v container it t).visits) is) ∙ keyed_free (is_some (key_of heap v)) (map (plain_pair texts tuples) (pairs_at h d.cell)) refl
    contains_free (looks.Range start stop step) w it s a b is =
        sym (ap (λ (t : Shown). (contains_shown heap v container it t).visits) is) ∙ ap (λ (o : Outcome Val). o.visits) (range_contains it start stop step)
    contains_free looks.Other w it s a b is = sym (ap (λ (t : Shown). (contains_shown heap v container it t).visits) is)
