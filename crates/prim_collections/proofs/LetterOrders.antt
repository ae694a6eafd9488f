-- The order of letters is that of their bytes.
use Rattle.std.proofs.Common.{◌≡◌, ℕ, suc, ◌+◌, ◌*◌, ◌<◌, ◌≤◌, List, [], ◌∷◌, length, map, drop, get_or, Bool, true, false, cond, Some, Result, Ok, refl, sym, ap, ◌∙◌, arith, drop-cons}
use Rattle.std.specs.Prelude.{if◌then◌else◌}
use Rattle.std.specs.declared.cmp.Ordering.{Ordering}
use Rattle.std.specs.declared.cmp.Ordering.TheVariants.{Less, Equal, Greater}
use Rattle.std.specs.Ordering.{nat_cmp, ordering_then}
use Rattle.std.proofs.lemmas.List.{drop_all}
use Rattle.prim_builtins.specs.mpy_base.Val.{Val}
use Rattle.prim_builtins.specs.py_values.Shown.{PlainHeap}
use Rattle.prim_builtins.specs.py_values.Equality.{Walk, visit}
use Rattle.prim_builtins.specs.py_primitives.Walks.{go_on}
use Rattle.prim_builtins.specs.py_primitives.Order.{Sign, Unordered, order, has_sign, better, best_from}
use Rattle.prim_builtins.specs.py_primitives.Iterables.{letter}
use Rattle.prim_collections.specs.Best.{best_among}

one_cmp : (o : Ordering) → ordering_then o Equal ≡ o
one_cmp Less = refl
one_cmp Equal = refl
one_cmp Greater = refl

abbrev found_by : Ordering → Walk (Result Ordering Unordered)
found_by o = record { answer = Some (Ok o); visits = 1 }

letters_compared : (heap : PlainHeap) (a b : ℕ) → order heap (letter a) (letter b) ≡ found_by (ordering_then (nat_cmp a b) Equal)
unfolding order
letters_compared heap a b = refl

pub letter_order : (heap : PlainHeap) (a b : ℕ) → order heap (letter a) (letter b) ≡ found_by (nat_cmp a b)
letter_order heap a b = letters_compared heap a b ∙ ap found_by (one_cmp (nat_cmp a b))

module _ (heap : PlainHeap) (sign : Sign) where
  abbrev behind : ℕ → ℕ → List Val → Walk (Result Ordering Unordered) → Walk (Result Val Unordered)
  behind a b vs found = visit (go_on found.answer found.visits (λ r. best_from heap sign (better heap sign (letter a) (letter b) r) vs))

  chosen : (a b : ℕ) (t : Bool) → cond t (letter a) (letter b) ≡ letter (cond t a b)
  chosen a b true = refl
  chosen a b false = refl

  -- one letter more
  letter_step : (a b : ℕ) (vs : List Val) → best_from heap sign (Ok (letter b)) (letter a ∷ vs) ≡ behind a b vs (found_by (nat_cmp a b))
  letter_step a b vs = ap (behind a b vs) (letter_order heap a b)

  pub letter_answer : (bytes : List ℕ) (at b c : ℕ) → at < length bytes → c ≡ (if has_sign sign (nat_cmp (get_or bytes at 0) b) then get_or bytes at 0 else b)
      → (best_from heap sign (Ok (letter b)) (map letter (drop at bytes))).answer ≡ (best_from heap sign (Ok (letter c)) (map letter (drop (at + 1) bytes))).answer
  letter_answer bytes at b c lt e =
      let one : suc at ≡ at + 1 = omega arith in
      let a = get_or bytes at 0 in
      let vs = map letter (drop (at + 1) bytes) in
      let first : map letter (drop at bytes) ≡ letter a ∷ vs = ap (map letter) (drop-cons bytes at 0 lt) ∙ ap (λ (k : ℕ). letter a ∷ map letter (drop k bytes)) one in
      ap (λ (ws : List Val). (best_from heap sign (Ok (letter b)) ws).answer) first
      ∙ (ap (λ (walk : Walk (Result Val Unordered)). walk.answer) (letter_step a b vs)
      ∙ ap (λ (w : Val). (best_from heap sign (Ok w) vs).answer) (chosen a b (has_sign sign (nat_cmp a b)) ∙ ap letter (sym e)))

  pub letters_begin : (bytes : List ℕ) → 0 < length bytes → (best_among heap sign (map letter bytes)).answer ≡ (best_from heap sign (Ok (letter (get_or bytes 0 0))) (map letter (drop 1 bytes))).answer
  letters_begin [] lt = absurd (omega arith)
  letters_begin (b ∷ bytes) lt = refl

  pub letters_end : (bytes : List ℕ) (at b : ℕ) → length bytes ≤ at → (best_from heap sign (Ok (letter b)) (map letter (drop at bytes))).answer ≡ Some (Ok (letter b))
  letters_end bytes at b le = ap (λ (bs : List ℕ). (best_from heap sign (Ok (letter b)) (map letter bs)).answer) (drop_all at bytes le)

  letters_visits : (bytes : List ℕ) (b : ℕ) → (best_from heap sign (Ok (letter b)) (map letter bytes)).visits ≡ 2 * length bytes
  letters_visits [] b = refl
  letters_visits (a ∷ bytes) b =
      let t = has_sign sign (nat_cmp a b) in
      let vs = map letter bytes in
      let next : (best_from heap sign (Ok (cond t (letter a) (letter b))) vs).visits ≡ 2 * length bytes =
      ap (λ (w : Val). (best_from heap sign (Ok w) vs).visits) (chosen a b t) ∙ letters_visits bytes (cond t a b) in
      ap (λ (walk : Walk (Result Val Unordered)). walk.visits) (letter_step a b vs) ∙ omega (arith, next)

  -- two for each letter but the first, which takes one
  pub among_visits : (bytes : List ℕ) → 0 < length bytes → suc (best_among heap sign (map letter bytes)).visits ≡ 2 * length bytes
  among_visits [] lt = absurd (omega arith)
  among_visits (b ∷ bytes) lt = omega (arith, letters_visits bytes b)
