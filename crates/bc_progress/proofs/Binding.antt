-- How many values there are: an unpacking gives as many as it is asked, and a call fills a slot for each parameter.
use Rattle.std.proofs.Common.{◌≡◌, ℕ, zero, suc, ◌-◌, ◌≤◌, List, [], ◌∷◌, map, length, replicate, Bool, true, false, Option, Some, None, refl, sym, ap, ◌∙◌, arith, if◌then◌else◌, length-append}
use Rattle.std.specs.Prelude.{Result, Ok, Err, nat_lt, slice_set, position, bytes_eq}
use Rattle.std.proofs.lemmas.Bool.{ltb-false}
use Rattle.std.proofs.lemmas.List.{length-map, length-replicate}
use Rattle.bc_machine.specs.mpy_base.Val.{Val, PlainWorld}
use Rattle.bc_machine.specs.py_values.Shown.{PlainHeap, Shown, Nothing, Number, Text, Tuple, Items, Pairs, Range, Other, shown}
use Rattle.bc_machine.specs.py_primitives.Faults.{Fault, WrongCount, UnpacksMore, UnpacksFewer}
use Rattle.bc_machine.specs.py_primitives.Outcome.{Outcome, Stop, Raises, Full, raises, gives, go_on_with, followed_by, making_text, making_texts}
use Rattle.bc_machine.specs.py_primitives.Iterables.{shown_items, over_items, kept_items}
use Rattle.bc_machine.specs.py_primitives.Uses.{unpack}
use Rattle.bc_machine.specs.py_effects.Effect.{Effect, on_heap, Place, Given, Gives, Throws, Fills, Fails, Thrown, Filled, failed, given_answer, given, fault_at}
use Rattle.bc_machine.specs.py_effects.Names.{Locals}
use Rattle.bc_machine.specs.py_effects.Calling.{Keys, first_slots, filled, into_slot, one_key, with_keys, default_items, with_defaults, last_slots, complete, empty_slots, all_filled, bound, bind}

pub length-slice_set : {A : Type 0} (xs : List A) (n : ℕ) (x : A) → length (slice_set xs n x) ≡ length xs
length-slice_set [] n x = refl
length-slice_set (y ∷ ys) zero x = refl
length-slice_set (y ∷ ys) (suc n) x = ap suc (length-slice_set ys n x)

abbrev Answer : Type 0 → Type 0
Answer A = Result A Stop

ok_is : {A : Type 0} (x y : A) → (let a : Answer A = Ok x in let b : Answer A = Ok y in a ≡ b) → x ≡ y
ok_is x y e = cc

-- an effect that gives a value has it as its answer
pub answer_is : {A : Type 0} (place : Place) (w w1 : PlainWorld) (r : Result A Stop) (a : A) → given_answer place w r ≡ Gives a w1 → r ≡ Ok a
answer_is place w w1 (Ok b) a e = cc
answer_is place w w1 (Err (Full x)) a e = cc
answer_is place w w1 (Err (Raises fault)) a e = absurd (never (fault_at place w fault) e)
  where
    never : (f : Fails) → failed f ≡ Gives a w1 → ⊥
    never (Thrown x w2) e = cc
    never (Filled x w2) e = cc

-- unpacking
-- =========

texts_count : (texts : List (List ℕ)) (heap : PlainHeap) (vs : List Val) → (making_texts heap texts).answer ≡ Ok vs → length vs ≡ length texts
texts_count [] heap vs e = sym (ap length (ok_is [] vs e))
texts_count (text ∷ texts) heap vs e = outer (making_text heap text).answer (making_text heap text).heap (making_text heap text).visits (λ behind us q. texts_count texts behind us q) e
  where
    inner : (v : Val) (r : Result (List Val) Stop) (last : PlainHeap) (n : ℕ) → ((us : List Val) → r ≡ Ok us → length us ≡ length texts) → (go_on_with r last n (λ us end. gives (v ∷ us) end)).answer ≡ Ok vs → length vs ≡ suc (length texts)
    inner v (Ok us) last n k e = sym (ap length (ok_is (v ∷ us) vs e)) ∙ ap suc (k us refl)
    inner v (Err stop) last n k e = cc

    outer : (r : Result Val Stop) (behind : PlainHeap) (n : ℕ) → ((h : PlainHeap) (us : List Val) → (making_texts h texts).answer ≡ Ok us → length us ≡ length texts) → (go_on_with r behind n (λ v behind. followed_by (making_texts behind texts) (λ us last. gives (v ∷ us) last))).answer ≡ Ok vs → length vs ≡ suc (length texts)
    outer (Ok v) behind n k e = inner v (making_texts behind texts).answer (making_texts behind texts).heap (making_texts behind texts).visits (k behind) e
    outer (Err stop) behind n k e = cc

module _ (heap : PlainHeap) (want : ℕ) (v : Val) (vs : List Val) where
  abbrev sized : List Val → Outcome (List Val) → Outcome (List Val)
  sized items kept = if nat_lt (length items) want then raises (UnpacksMore (length items)) heap else (if nat_lt want (length items) then raises (UnpacksFewer want) heap else kept)

  sized_count : (items : List Val) (kept : Outcome (List Val)) → (kept.answer ≡ Ok vs → length vs ≡ length items) → (sized items kept).answer ≡ Ok vs → length vs ≡ want
  sized_count items kept k e = by (nat_lt (length items) want) (nat_lt want (length items)) refl refl e
    where
      by : (b c : Bool) → nat_lt (length items) want ≡ b → nat_lt want (length items) ≡ c
          → (if b then raises (UnpacksMore (length items)) heap else (if c then raises (UnpacksFewer want) heap else kept)).answer ≡ Ok vs → length vs ≡ want
      by true c eb ec e = cc
      by false true eb ec e = cc
      by false false eb ec e = let n = k e in let l = ltb-false _ _ eb in let m = ltb-false _ _ ec in omega (arith, n, l, m)

  shown_count : (s : Shown) → (over_items heap v (shown_items s) (λ items. sized items (kept_items heap items s))).answer ≡ Ok vs → length vs ≡ want
  shown_count (Text bytes) e = sized_count (map _ bytes) _ (λ q. texts_count _ heap vs q ∙ (length-map bytes _ ∙ sym (length-map bytes _))) e
  shown_count (Tuple items) e = sized_count items _ (λ q. sym (ap length (ok_is items vs q))) e
  shown_count (Items items) e = sized_count items _ (λ q. sym (ap length (ok_is items vs q))) e
  shown_count (Pairs pairs) e = sized_count _ _ (λ q. sym (ap length (ok_is _ vs q))) e
  shown_count (Range start stop step) e = sized_count _ _ (λ q. sym (ap length (ok_is _ vs q))) e
  shown_count Nothing e = cc
  shown_count (Number z) e = cc
  shown_count Other e = cc

  pub unpack_count : (unpack heap want v).answer ≡ Ok vs → length vs ≡ want
  unpack_count e = shown_count (shown heap v) e

-- binding
-- =======

-- there are `n` slots, where there are any
abbrev Sized : ℕ → Result Locals Fault → Type 0
Sized n (Ok slots) = length slots ≡ n
Sized n (Err fault) = Unit {0}

module _ (n : ℕ) where
  filled_sized : (slots : Locals) (slot : ℕ) (name : List ℕ) (v : Val) (old : Option Val) → length slots ≡ n → Sized n (filled slots slot name v old)
  filled_sized slots slot name v None e = length-slice_set slots slot (Some v) ∙ e
  filled_sized slots slot name v (Some old) e = tt

  into_sized : (slots : Locals) (name : List ℕ) (v : Val) (at : Option ℕ) → length slots ≡ n → Sized n (into_slot slots name v at)
  into_sized slots name v (Some slot) e = filled_sized slots slot name v _ e
  into_sized slots name v None e = tt

  key_sized : (params : List (List ℕ)) (slots : Locals) (v : Val) (s : Shown) → length slots ≡ n → Sized n (one_key params slots v s)
  key_sized params slots v (Text name) e = into_sized slots name v (position (bytes_eq name) params) e
  key_sized params slots v Nothing e = tt
  key_sized params slots v (Number z) e = tt
  key_sized params slots v (Tuple items) e = tt
  key_sized params slots v (Items items) e = tt
  key_sized params slots v (Pairs pairs) e = tt
  key_sized params slots v (Range start stop step) e = tt
  key_sized params slots v Other e = tt

  keys_sized : (heap : PlainHeap) (params : List (List ℕ)) (keys : Keys) (r : Result Locals Fault) → Sized n r → Sized n (with_keys heap params r keys)
  keys_sized heap params [] (Ok slots) e = e
  keys_sized heap params (key ∷ keys) (Ok slots) e = keys_sized heap params keys (one_key params slots (key.1) (shown heap (key.0))) (key_sized params slots (key.1) (shown heap (key.0)) e)
  keys_sized heap params [] (Err fault) e = tt
  keys_sized heap params (key ∷ keys) (Err fault) e = tt

  complete_sized : (slots : Locals) (count : ℕ) → length slots ≡ n → Sized n (complete slots count)
  complete_sized slots zero e = e
  complete_sized slots (suc count) e = tt

defaults-length : (slots : Locals) (defaults : List Val) → length (with_defaults slots defaults) ≡ length slots
defaults-length [] [] = refl
defaults-length [] (d ∷ ds) = refl
defaults-length (slot ∷ slots) [] = refl
defaults-length (slot ∷ slots) (d ∷ ds) = ap suc (defaults-length slots ds)

last-length : (before : ℕ) (slots : Locals) (defaults : List Val) → length (last_slots before slots defaults) ≡ length slots
last-length zero slots defaults = defaults-length slots defaults
last-length (suc before) [] defaults = refl
last-length (suc before) (slot ∷ slots) defaults = ap suc (last-length before slots defaults)

all_sized : (n before : ℕ) (defaults : List Val) (r : Result Locals Fault) → Sized n r → Sized n (all_filled before defaults r)
all_sized n before defaults (Ok slots) e = complete_sized n _ (empty_slots (last_slots before slots defaults)) (last-length before slots defaults ∙ e)
all_sized n before defaults (Err fault) e = tt

first-length : (size : ℕ) (args : List Val) → length args ≤ size → length (first_slots size args) ≡ size
first-length size args le =
    let a = length-append (map Some args) (replicate (size - length args) None) in
    let b = length-map args Some in
    let c = length-replicate {A = Option Val} (size - length args) None in
    omega (arith, a, b, c, le)

bound_sized : (heap : PlainHeap) (params : List (List ℕ)) (count : ℕ) (defaults : Val) (args : List Val) (keys : Keys) → Sized (length params) (bound heap params count defaults args keys)
bound_sized heap params count defaults args keys = by (nat_lt (length params) (length args)) refl
  where
    by : (b : Bool) → nat_lt (length params) (length args) ≡ b → Sized (length params) (if b then Err (WrongCount (length params) (length args)) else all_filled (length params - count) (default_items (shown heap defaults)) (with_keys heap params (Ok (first_slots (length params) args)) keys))
    by true e = tt
    by false e = all_sized (length params) (length params - count) (default_items (shown heap defaults)) (with_keys heap params (Ok (first_slots (length params) args)) keys)
        (keys_sized (length params) heap params keys (Ok (first_slots (length params) args)) (first-length (length params) args (ltb-false (length params) (length args) e)))

pub bind_count : (place : Place) (w w1 : PlainWorld) (params : List (List ℕ)) (count : ℕ) (defaults : Val) (args : List Val) (keys : Keys) (slots : Locals)
    → given place (bind w params count defaults args keys) ≡ Gives slots w1 → length slots ≡ length params
bind_count place w w1 params count defaults args keys slots e = by (bound w.heap params count defaults args keys) (bound_sized w.heap params count defaults args keys) e
  where
    by : (r : Result Locals Fault) → Sized (length params) r → given place (elim r [ Ok found ↦ Rattle.bc_machine.specs.py_effects.Effect.does found w | Err fault ↦ Rattle.bc_machine.specs.py_effects.Effect.faults fault w ]) ≡ Gives slots w1 → length slots ≡ length params
    by (Ok found) s e = sym (ap length (ok_is found slots (answer_is place w w1 (Ok found) slots e))) ∙ s
    by (Err fault) s e = absurd (cc (answer_is place w w1 (Err (Raises fault)) slots e))
