-- What follows on the search for the best of values.
use Rattle.std.proofs.Common.{◌≡◌, ℕ, ◌-◌, ◌*◌, ◌<◌, List, [], ◌∷◌, length, map, get_or, Bool, true, false, cond, Option, Some, None, Result, Ok, Err, refl, sym, ap, ◌∙◌, subst, arith}
use Rattle.std.specs.Prelude.{nat_eq, nat_lt}
use Rattle.prim_builtins.specs.arena_heap.declared.value.Value.{Value}
use Rattle.prim_builtins.specs.arena_heap.declared.value.Value.TheVariants as values
use Rattle.prim_builtins.specs.arena_heap.declared.value.StrNo.{StrNo}
use Rattle.prim_builtins.specs.arena_heap.declared.value.ConstNo.{ConstNo}
use Rattle.prim_builtins.specs.mpy_base.declared.builtin.Builtin.TheVariants as builtins
use Rattle.prim_builtins.specs.mpy_base.World.{Heap}
use Rattle.prim_builtins.specs.mpy_base.Val.{Val, Str}
use Rattle.prim_builtins.specs.arena_heap.Values.{Leads, IsStr}
use Rattle.prim_builtins.specs.arena_objects.Keys.{AllTold}
use Rattle.prim_builtins.specs.arena_objects.Iterables.{items_in as arena_items, spelled}
use Rattle.prim_builtins.specs.py_values.Shown.{PlainHeap, Shown, Text, shown}
use Rattle.prim_builtins.specs.py_values.Equality.{Walk}
use Rattle.prim_builtins.specs.py_primitives.Faults.{TooFew, NothingToCompare}
use Rattle.prim_builtins.specs.py_primitives.Outcome.{Outcome, gives, raises, after_answer, after_walk}
use Rattle.prim_builtins.specs.py_primitives.Order.{Sign, Unordered}
use Rattle.prim_builtins.specs.py_primitives.Iterables.{letter, shown_items, over_items, iterating}
use Rattle.prim_builtins.specs.py_primitives.Calls.{AtLeast, counts_of, gives_best, best_of, made_letter, call_best, call, unless_fault}
use Rattle.prim_builtins.specs.prim_walks.Plain.{plain, plain_heap}
use Rattle.prim_builtins.specs.prim_faults.declared.fault.Fault.TheVariants as faults
use Rattle.prim_builtins.specs.prim_faults.declared.stop.Stop.{Stop}
use Rattle.prim_builtins.specs.prim_faults.declared.stop.Stop.TheVariants.{Raises}
use Rattle.prim_builtins.specs.prim_faults.Outcomes.{IsOutcome}
use Rattle.prim_builtins.proofs.prim_faults_lemmas.Outcomes.{raises_outcome}
use Rattle.prim_builtins.specs.prim_operators.Operands.{IsNested}
use Rattle.prim_builtins.proofs.prim_operators_lemmas.ItemsShown.{str_shown}
use Rattle.prim_collections.specs.declared.extreme.Extreme.{Extreme}
use Rattle.prim_collections.specs.declared.extreme.Extreme.TheVariants as extremes
use Rattle.prim_collections.specs.Collected.{is_iterable, is_str}
use Rattle.prim_collections.specs.Best.{plain_extreme, extreme_builtin, best_among}
use Rattle.prim_collections.proofs.Kept.{IsPlain, others_shown, other_kept}
use Rattle.prim_collections.proofs.LetterOrders.{among_visits}
use Rattle.prim_collections.proofs.MadeLists.{more_visits}
use Rattle.prim_collections.proofs.Visits.{text_none}

pub is_zero : (n : ℕ) → nat_eq n 0 ≡ true → n ≡ 0
is_zero n e = grind arith

pub is_more : (n : ℕ) → nat_eq n 0 ≡ false → 0 < n
is_more n e = grind arith

module _ (heap : PlainHeap) (sign : Sign) (next : Val → Outcome Val) where
  pub nothing : (items : List Val) → length items ≡ 0 → best_of heap sign next items ≡ raises NothingToCompare heap
  nothing [] e = refl
  nothing (v ∷ vs) e = absurd (omega arith)

  pub something : (items : List Val) → 0 < length items → best_of heap sign next items ≡ after_walk heap (best_among heap sign items) (gives_best heap sign next)
  something [] lt = absurd (omega arith)
  something (v ∷ vs) lt = refl

  module _ (free : (v : Val) → (next v).visits ≡ 0) where
    best_free : (r : Result Val Unordered) → (gives_best heap sign next r).visits ≡ 0
    best_free (Ok v) = free v
    best_free (Err e) = refl

    answer_free : (o : Option (Result Val Unordered)) → (after_answer o heap (gives_best heap sign next)).visits ≡ 0
    answer_free (Some r) = best_free r
    answer_free None = refl

    -- all visits are those of the search
    pub something_visits : (items : List Val) → 0 < length items → (best_of heap sign next items).visits ≡ (best_among heap sign items).visits
    something_visits items lt =
        let none = answer_free (best_among heap sign items).answer in
        ap (λ (o : Outcome Val). o.visits) (something items lt) ∙ omega (arith, none)

    pub nothing_visits : (items : List Val) → length items ≡ 0 → (best_of heap sign next items).visits ≡ 0
    nothing_visits items e = ap (λ (o : Outcome Val). o.visits) (nothing items e)

pub letter_free : (heap : PlainHeap) (s : Shown) (v : Val) → (made_letter heap s v).visits ≡ 0
letter_free heap (Text bytes) (Str letter) = text_none heap letter
letter_free heap _ _ = refl

-- an item that is no letter is given as it is
made_plain : (heap : PlainHeap) (sign : Sign) (s : Shown) (items : List Val) → IsPlain s → best_of heap sign (made_letter heap s) items ≡ best_of heap sign (λ best. gives best heap) items
made_plain heap sign (Text bytes) items p = absurd p
made_plain heap sign _ items p = refl

pub str_is : (v : Value) → is_str v ≡ true → IsStr v
str_is (values.Str s) e = tt
str_is (values.Text t) e = tt
str_is _ e = absurd cc

module _ (texts : StrNo → Option (List ℕ)) (tuples : ConstNo → Option (List Value)) where
  module _ (h new : Heap Value ℕ) {A : Type 0} (walk : Walk A) (next : A → Outcome Val) where
    -- what comes behind a walk
    pub walked : (a : A) (r : Result Value Stop) → walk.answer ≡ Some a → IsOutcome texts tuples h new r (next a) → IsOutcome texts tuples h new r (after_walk (plain_heap texts tuples h) walk next)
    walked a r e is =
        more_visits texts tuples h new r walk.visits _ (subst (λ (o : Outcome Val). IsOutcome texts tuples h new r o) (sym (ap (λ (o : Option A). after_answer o (plain_heap texts tuples h) next) e)) is)

  pub too_deep : (h : Heap Value ℕ) → AllTold texts tuples h.objects → {A : Type 0} (walk : Walk A) (next : A → Outcome Val) → walk.answer ≡ None
      → IsOutcome texts tuples h h (Err (Raises faults.TooDeep)) (after_walk (plain_heap texts tuples h) walk next)
  too_deep h all {A} walk next e =
      more_visits texts tuples h h _ walk.visits _ (raises_outcome texts tuples h faults.TooDeep _ all tt (ap (λ (o : Option A). after_answer o (plain_heap texts tuples h) next) e))

  module _ (h : Heap Value ℕ) (sign : Sign) (v : Value) (leads : Leads h.objects v) where
    abbrev heap : PlainHeap
    heap = plain_heap texts tuples h

    -- the search in a str
    pub str_searched : IsStr v → iterating heap (plain texts tuples v) (best_of heap sign (made_letter heap (shown heap (plain texts tuples v)))) ≡ best_of heap sign (made_letter heap (Text (spelled texts h v))) (map letter (spelled texts h v))
    str_searched str =
        let shows : shown heap (plain texts tuples v) ≡ Text (spelled texts h v) = str_shown texts tuples h v str leads in
        ap (λ (s : Shown). over_items heap (plain texts tuples v) (shown_items s) (best_of heap sign (made_letter heap s))) shows

    -- and in another iterable
    pub items_searched : is_iterable v ≡ true → is_str v ≡ false → IsNested tuples v
        → iterating heap (plain texts tuples v) (best_of heap sign (made_letter heap (shown heap (plain texts tuples v)))) ≡ best_of heap sign (λ best. gives best heap) (map (plain texts tuples) (arena_items tuples h v))
    items_searched is other nests =
        let both = others_shown texts tuples h v is other leads nests in
        ap (λ (o : Option (List Val)). over_items heap (plain texts tuples v) o (best_of heap sign (made_letter heap (shown heap (plain texts tuples v))))) both.0
        ∙ made_plain heap sign (shown heap (plain texts tuples v)) (map (plain texts tuples) (arena_items tuples h v)) both.1

-- two arguments or more
pub many_called : (heap : PlainHeap) (sign : Sign) (vs : List Val) → 1 < length vs → call_best heap sign vs ≡ best_of heap sign (λ best. gives best heap) vs
many_called heap sign [] lt = absurd (omega arith)
many_called heap sign (v ∷ []) lt = absurd (omega arith)
many_called heap sign (v ∷ w ∷ vs) lt = refl

pub single : (xs : List Value) (v : Value) → length xs ≡ 1 → v ≡ get_or xs 0 v → xs ≡ v ∷ []
single [] v e is = absurd (omega arith)
single (x ∷ []) v e is = ap (λ (y : Value). y ∷ []) (sym is)
single (x ∷ y ∷ xs) v e is = absurd (omega arith)

enough : (n : ℕ) → 0 < n → nat_lt n 1 ≡ false
enough n lt = grind arith

pub best_called : (extreme : Extreme) (heap : PlainHeap) (args : List Val) (keys : List (Val × Val)) → keys ≡ [] → 0 < length args → call heap (extreme_builtin extreme) args keys ≡ call_best heap (plain_extreme extreme) args
best_called extremes.Least heap args keys none some =
    ap (λ (ks : List (Val × Val)). call heap builtins.Min args ks) none
    ∙ ap (λ (b : Bool). unless_fault heap (cond b (Some (TooFew 1 (length args))) None) (call_best heap (plain_extreme extremes.Least) args)) (enough (length args) some)
best_called extremes.Greatest heap args keys none some =
    ap (λ (ks : List (Val × Val)). call heap builtins.Max args ks) none
    ∙ ap (λ (b : Bool). unless_fault heap (cond b (Some (TooFew 1 (length args))) None) (call_best heap (plain_extreme extremes.Greatest) args)) (enough (length args) some)

pub counts_known : (extreme : Extreme) → counts_of (extreme_builtin extreme) ≡ AtLeast 1
counts_known extremes.Least = refl
counts_known extremes.Greatest = refl

module _ (texts : StrNo → Option (List ℕ)) (tuples : ConstNo → Option (List Value)) (h : Heap Value ℕ) (sign : Sign) (v : Value) (leads : Leads h.objects v) where
  -- the visits of the search in a str
  pub letters_searched : IsStr v → (iterating (plain_heap texts tuples h) (plain texts tuples v) (best_of (plain_heap texts tuples h) sign (made_letter (plain_heap texts tuples h) (shown (plain_heap texts tuples h) (plain texts tuples v))))).visits ≡ 2 * length (spelled texts h v) - 1
  letters_searched str =
      ap (λ (o : Outcome Val). o.visits) (str_searched texts tuples h sign v leads str) ∙ in_letters (plain_heap texts tuples h) (spelled texts h v) (made_letter (plain_heap texts tuples h) (Text (spelled texts h v))) (letter_free (plain_heap texts tuples h) (Text (spelled texts h v)))
    where
      in_letters : (heap : PlainHeap) (bytes : List ℕ) (next : Val → Outcome Val) → ((w : Val) → (next w).visits ≡ 0) → (best_of heap sign next (map letter bytes)).visits ≡ 2 * length bytes - 1
      in_letters heap [] next free = refl
      in_letters heap (b ∷ bytes) next free =
          omega (arith, something_visits heap sign next free (map letter (b ∷ bytes)) (omega arith), among_visits heap sign (b ∷ bytes) (omega arith))

  -- there is none in what isn't iterable
  pub other_searched : is_iterable v ≡ false → (iterating (plain_heap texts tuples h) (plain texts tuples v) (best_of (plain_heap texts tuples h) sign (made_letter (plain_heap texts tuples h) (shown (plain_heap texts tuples h) (plain texts tuples v))))).visits ≡ 0
  other_searched other =
      ap (λ (o : Option (List Val)). (over_items (plain_heap texts tuples h) (plain texts tuples v) o (best_of (plain_heap texts tuples h) sign (made_letter (plain_heap texts tuples h) (shown (plain_heap texts tuples h) (plain texts tuples v))))).visits) (other_kept texts tuples h v other leads)
