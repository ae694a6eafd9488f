-- Bindings of arguments.
use Rattle.std.proofs.Common.{◌≡◌, ℕ, zero, suc, ◌-◌, ◌≤◌, List, [], ◌∷◌, ◌++◌, length, map, replicate, Bool, false, cond, nat_lt, Option, Some, None, Result, Ok, Err, refl, sym, ap, ◌∙◌, arith}
use Rattle.std.specs.Prelude.{All, IfSome}
use Rattle.std.specs.Option.{option_map}
use Rattle.std.proofs.lemmas.Bool.Decides.{nat_tests}
use Rattle.std.proofs.lemmas.List.{length-map}
use Rattle.std.proofs.lemmas.List.Elements.{All-append, All-map, All-replicate}
use Rattle.mpy_base.specs.Val.{Val, PlainWorld}
use Rattle.prim_types.specs.py_values.Shown.{PlainHeap, shown}
use Rattle.prim_types.specs.py_primitives.Faults as plain
use Rattle.prim_outputs.specs.py_effects.Effect.{Effect, does, faults}
use Rattle.prim_outputs.specs.py_effects.Names.{Locals}
use Rattle.prim_outputs.specs.py_effects.Calling.{Keys, first_slots, with_keys, default_items, last_slots, empty_slots, complete, all_filled, bound}
use Rattle.prim_calls.specs.Slots.{first_values, count_empty}
use Rattle.prim_calls.specs.Binding.{bound_answer}

-- the first slots
-- ===============

more_none : {A B : Type 0} (f : A → B) (size : ℕ) → map (λ (slot : Option A). option_map f slot) (replicate size None) ≡ replicate size None
more_none f zero = refl
more_none {A = A} {B = B} f (suc size) = let none : Option B = None in ap (λ (slots : List (Option B)). none ∷ slots) (more_none f size)

first_mapped : {A B : Type 0} (f : A → B) (values : List A) (size : ℕ)
    → map (λ (slot : Option A). option_map f slot) (map (λ v. Some v) values ++ replicate size None) ≡ map (λ v. Some v) (map f values) ++ replicate size None
first_mapped f [] size = more_none f size
first_mapped {A = A} {B = B} f (v ∷ values) size = let some : Option B = Some (f v) in ap (λ (slots : List (Option B)). some ∷ slots) (first_mapped f values size)

first_plain : {A : Type 0} (f : A → Val) (size : ℕ) (values : List A) → map (λ (slot : Option A). option_map f slot) (first_values size values) ≡ first_slots size (map f values)
first_plain f size values =
    let some : Val → Option Val = λ v. Some v in
    first_mapped f values (size - length values)
    ∙ ap (λ (n : ℕ). map some (map f values) ++ replicate (size - n) None) (sym (length-map values f))

-- slots that hold the arguments alone
pub slots_begun : {A : Type 0} (f : A → Val) (size n : ℕ) (values : List A) (slots : List (Option A)) → slots ≡ first_values size values → size ≡ n
    → map (λ (slot : Option A). option_map f slot) slots ≡ first_slots n (map f values)
slots_begun {A = A} f size n values slots is same =
    ap (λ (ss : List (Option A)). map (λ (slot : Option A). option_map f slot) ss) is ∙ (first_plain f size values ∙ ap (λ (k : ℕ). first_slots k (map f values)) same)

pub first_known : {A : Type 0} (P : A → Type 0) (size : ℕ) (values : List A) → All P values → All (λ (slot : Option A). IfSome slot P) (first_values size values)
first_known {A = A} P size values all =
    let some : A → Option A = λ v. Some v in
    let none : Option A = None in
    let Q : Option A → Type 0 = λ slot. IfSome slot P in
    All-append Q (map some values) (replicate (size - length values) none) (All-map Q some values all) (All-replicate Q (size - length values) none tt)

-- empty slots
-- ===========

empty_plain : {A : Type 0} (f : A → Val) (slots : List (Option A)) → empty_slots (map (λ (slot : Option A). option_map f slot) slots) ≡ count_empty slots
empty_plain f [] = refl
empty_plain f (None ∷ slots) = ap (λ (n : ℕ). suc n) (empty_plain f slots)
empty_plain f (Some v ∷ slots) = empty_plain f slots

all_there : (slots : Locals) (count : ℕ) → count ≡ 0 → Ok slots ≡ complete slots count
all_there slots zero e = refl
all_there slots (suc count) e = absurd (omega arith)

some_missing : (slots : Locals) (count : ℕ) → (count ≡ 0 → ⊥) → Err (plain.Missing count) ≡ complete slots count
some_missing slots zero e = absurd (e refl)
some_missing slots (suc count) e = refl

module _ {A : Type 0} (f : A → Val) (slots : List (Option A)) (before : ℕ) (defaults : List Val) (old : Locals) (count : ℕ)
    (done : map (λ (slot : Option A). option_map f slot) slots ≡ last_slots before old defaults) (counted : count ≡ count_empty slots) where
  empty_count : count ≡ empty_slots (last_slots before old defaults)
  empty_count = counted ∙ (sym (empty_plain f slots) ∙ ap empty_slots done)

  pub filled_all : count ≡ 0 → Ok (map (λ (slot : Option A). option_map f slot) slots) ≡ all_filled before defaults (Ok old)
  filled_all none = ap (λ (ss : Locals). Ok ss) done ∙ all_there (last_slots before old defaults) (empty_slots (last_slots before old defaults)) (sym empty_count ∙ none)

  pub filled_some : (count ≡ 0 → ⊥) → Err (plain.Missing count) ≡ all_filled before defaults (Ok old)
  filled_some some =
      ap (λ (n : ℕ). Err (plain.Missing n)) empty_count
      ∙ some_missing (last_slots before old defaults) (empty_slots (last_slots before old defaults)) (λ e. some (empty_count ∙ e))

-- bindings
-- ========

module _ (heap : PlainHeap) (params : List (List ℕ)) (given : ℕ) (defaults : Val) (args : List Val) (keys : Keys) where
  pub bound_further : length args ≤ length params → (found : Result Locals plain.Fault) → found ≡ with_keys heap params (Ok (first_slots (length params) args)) keys
      → all_filled (length params - given) (default_items (shown heap defaults)) found ≡ bound heap params given defaults args keys
  bound_further few found is =
      let test : nat_lt (length params) (length args) ≡ false = grind (arith, nat_tests) in
      let others : Result Locals plain.Fault = all_filled (length params - given) (default_items (shown heap defaults)) (with_keys heap params (Ok (first_slots (length params) args)) keys) in
      ap (λ (r : Result Locals plain.Fault). all_filled (length params - given) (default_items (shown heap defaults)) r) is
      ∙ sym (ap (λ (b : Bool). cond b (Err (plain.WrongCount (length params) (length args))) others) test)

-- the effect of a binding
module _ (w : PlainWorld) where
  abbrev pub effect_of : Result Locals plain.Fault → Effect Locals
  effect_of result = elim result [ Ok slots ↦ does slots w | Err fault ↦ faults fault w ]

  pub effect_answer : (result : Result Locals plain.Fault) → bound_answer result ≡ (effect_of result).answer
  effect_answer (Ok slots) = refl
  effect_answer (Err fault) = refl

  pub effect_world : (result : Result Locals plain.Fault) → (effect_of result).world ≡ w
  effect_world (Ok slots) = refl
  effect_world (Err fault) = refl

  pub effect_visits : (result : Result Locals plain.Fault) → (effect_of result).visits ≡ 0
  effect_visits (Ok slots) = refl
  effect_visits (Err fault) = refl
