-- Lists that are repeated.
use Rattle.std.proofs.Common.{◌≡◌, ℕ, zero, suc, ◌+◌, ◌-◌, ◌*◌, ◌/◌, ◌%◌, ◌<◌, ◌≤◌, List, length, get_or, refl, sym, ap, ◌∙◌, inl, inr, arith, length-append}
use Rattle.std.specs.List.{repeat}
use Rattle.std.proofs.Math.Nat.{mul-le-mul_left}
use Rattle.std.proofs.lemmas.List.{get_or_append_left, get_or-append_right}
use Rattle.std.proofs.lemmas.Nat.{mod_below, div-add-mod'}
use Rattle.std.proofs.lemmas.Bool.{cases_lt}

module _ {X : Type 0} (xs : List X) where
  pub length_repeat : (n : ℕ) → length (repeat n xs) ≡ n * length xs
  length_repeat zero = omega arith
  length_repeat (suc n) = omega (arith, length-append xs (repeat n xs), length_repeat n)

  read_repeat : (n q r k : ℕ) (d : X) → q < n → r < length xs → k ≡ q * length xs + r → get_or (repeat n xs) k d ≡ get_or xs r d
  read_repeat zero q r k d lt low e = absurd (omega arith)
  read_repeat (suc n) zero r k d lt low e =
      let here : k ≡ r = omega arith in
      let within : k < length xs = omega arith in
      get_or_append_left xs (repeat n xs) d k within ∙ ap (λ (j : ℕ). get_or xs j d) here
  read_repeat (suc n) (suc q) r k d lt low e =
      let past : length xs ≤ k = omega arith in
      let rest : k - length xs ≡ q * length xs + r = omega arith in
      get_or-append_right xs (repeat n xs) (length xs) k d refl past ∙ read_repeat n q r (k - length xs) d (omega arith) low rest

  some_items : (n k : ℕ) → k < length (repeat n xs) → 0 < length xs
  some_items n k lt = elim (cases_lt 0 (length xs)) [
    | inl some ↦ some
    | inr none ↦ absurd (let empty : length xs ≡ 0 = omega arith in omega (arith, lt, length_repeat n, ap (λ (m : ℕ). n * m) empty))
  ]

  below : (n k : ℕ) → k < length (repeat n xs) → k / length xs < n
  below n k lt =
      let w = length xs in
      elim (cases_lt (k / w) n) [
        | inl less ↦ less
        | inr more ↦ absurd (omega (arith, lt, length_repeat n, mul-le-mul_left w more, div-add-mod' k w))
      ]

  -- items come again after as many as there are
  pub repeat_at : (n k : ℕ) (d : X) → k < length (repeat n xs) → (0 < length xs) × (get_or (repeat n xs) k d ≡ get_or xs (k % length xs) d)
  repeat_at n k d lt =
      let some = some_items n k lt in
      (some, read_repeat n (k / length xs) (k % length xs) k d (below n k lt) (mod_below k (length xs) some) (sym (div-add-mod' k (length xs))))
