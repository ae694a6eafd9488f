-- The places of numbers in ranges.
use Rattle.std.proofs.Common.{◌≡◌, ◌≢◌, ℕ, zero, suc, ◌+◌, ◌-◌, ◌*◌, ◌/◌, ◌<◌, ℤ, pos, negsuc, ◌+ℤ◌, ◌-ℤ◌, neg_ℤ, Bool, true, false, List, get_or, refl, sym, ap, ◌∙◌, arith}
use Rattle.std.specs.List.{list_any, range_with_len}
use Rattle.std.specs.Ordering.{int_eq}
use Rattle.std.proofs.lemmas.Int.{ints}
use Rattle.std.proofs.lemmas.Nat.{div-mul-add}
use Rattle.std.proofs.lemmas.Bool.Decides.{Decides-int_eq}
use Rattle.std.proofs.lemmas.List.Folds.{list_any_at, Any-from_list_any}
use Rattle.std.proofs.lemmas.List.FromFn.{length-range_with_len, get_or-range_with_len}
use Rattle.prim_faults.specs.py_values.Shown.{at_least_zero, range_len}
use Rattle.prim_faults.specs.py_primitives.Iterables.{range_number}
use Rattle.prim_faults.specs.py_primitives.Operators.{is_in_range}

span_up : (z start : ℤ) (m : ℕ) → z ≡ start +ℤ pos m → z -ℤ start ≡ pos m
span_up z start m e = omega (arith, ints)

span_down : (z start : ℤ) (m : ℕ) → z ≡ start +ℤ neg_ℤ (pos m) → start -ℤ z ≡ pos m
span_down z start m e = omega (arith, ints)

-- as many steps lead to the number at a place as stand in front of it
pub steps_to : (z start step : ℤ) (at : ℕ) → step ≢ pos 0 → z ≡ range_number start step at → range_len start z step ≡ at
steps_to z start (pos zero) at ne e = absurd (ne refl)
steps_to z start (pos (suc n)) at ne e =
    ap (λ (d : ℤ). (at_least_zero d + (suc n - 1)) / suc n) (span_up z start (at * suc n) e) ∙ div-mul-add at (suc n) (suc n - 1) (omega arith)
steps_to z start (negsuc n) at ne e =
    ap (λ (d : ℤ). (at_least_zero d + n) / suc n) (span_down z start (at * suc n) e) ∙ div-mul-add at (suc n) n (omega arith)

module _ (z start stop step : ℤ) where
  abbrev places : List ℕ
  places = range_with_len 0 (range_len start stop step)

  abbrev stands : ℕ → Bool
  stands at = int_eq z (range_number start step at)

  place : (at d : ℕ) → at < range_len start stop step → get_or places at d ≡ at
  place at d lt = let e = get_or-range_with_len 0 (range_len start stop step) at d lt in omega (arith, e)

  read : (at : ℕ) → at < range_len start stop step → (d : ℕ) → stands at ≡ true → list_any stands places ≡ true
  read at lt d e =
      list_any_at stands places at d (omega (arith, lt, length-range_with_len 0 (range_len start stop step)))
      (ap stands (place at d lt) ∙ e)

  pub is_there : (at : ℕ) → at < range_len start stop step → z ≡ range_number start step at → is_in_range z start stop step ≡ true
  is_there at lt e = read at lt 0 ((Decides-int_eq z (range_number start step at)).1 e)

  by_test : (b : Bool) → is_in_range z start stop step ≡ b → ((at : ℕ) → at < range_len start stop step → z ≡ range_number start step at → ⊥) → b ≡ false
  by_test false e none = refl
  by_test true e none =
      let some = Any-from_list_any stands places e in
      let lt : some.0 < range_len start stop step = omega (arith, some.2, length-range_with_len 0 (range_len start stop step)) in
      let at : some.0 ≡ some.1 = sym (place some.0 some.1 lt) ∙ some.3 in
      absurd (none some.0 lt ((Decides-int_eq z (range_number start step some.0)).0 (ap stands at ∙ some.4)))

  pub is_nowhere : ((at : ℕ) → at < range_len start stop step → z ≡ range_number start step at → ⊥) → is_in_range z start stop step ≡ false
  is_nowhere none = by_test (is_in_range z start stop step) refl none

  -- a number that isn't where as many steps lead as lead up to it is nowhere
  pub is_elsewhere : step ≢ pos 0 → (range_len start z step < range_len start stop step → z ≡ range_number start step (range_len start z step) → ⊥) → is_in_range z start stop step ≡ false
  is_elsewhere ne other =
      is_nowhere (λ at lt e.
      let same = steps_to z start step at ne e in
      other (omega (arith, same, lt)) (e ∙ ap (range_number start step) (sym same)))

  -- the answer, by the place up to which the steps lead
  pub decided : (k : ℕ) (b : Bool) → step ≢ pos 0 → k ≡ range_len start z step → k < range_len start stop step → b ≡ int_eq (range_number start step k) z
      → b ≡ is_in_range z start stop step
  decided k true ne is lt e = sym (is_there k lt (sym ((Decides-int_eq (range_number start step k) z).0 (sym e))))
  decided k false ne is lt e =
      sym (is_elsewhere ne (λ lt' same. true_false (e ∙ (Decides-int_eq (range_number start step k) z).1 (ap (range_number start step) is ∙ sym same))))
    where
      true_false : false ≡ true → ⊥
      true_false q = cc
