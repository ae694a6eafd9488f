-- The lowest of a list up to a height, seen from their end.
use Rattle.std.proofs.Common.{◌≡◌, ℕ, zero, suc, ◌-◌, ◌<◌, ◌≤◌, min, List, [], ◌∷◌, length, take, drop, reverse, Bool, true, false, refl, sym, ap, ◌∙◌, arith}
use Rattle.std.specs.Prelude.{nat_lt}
use Rattle.std.proofs.Math.ListN.{set}
use Rattle.std.proofs.lemmas.Bool.{ltb-true, ltb-false}
use Rattle.std.proofs.lemmas.List.{length-take, take_all, take-take}
use Rattle.vm_frames.proofs.Cuts.{reverse-take, reverse-set, reverse-take_but}

take_least : {A : Type 0} (xs : List A) (h n : ℕ) → take (min h n) xs ≡ take n (take h xs)
take_least {A = A} xs h n = by_test (nat_lt n h) refl
  where
    by_test : (b : Bool) → nat_lt n h ≡ b → take (min h n) xs ≡ take n (take h xs)
    by_test true e =
        let lt = ltb-true n h e in
        let least : min h n ≡ n = omega (arith, lt) in
        let le : n ≤ h = omega (arith, lt) in
        ap (λ (k : ℕ). take k xs) least ∙ sym (take-take n h xs le)
    by_test false e =
        let ge = ltb-false n h e in
        let least : min h n ≡ h = omega (arith, ge) in
        let le : length (take h xs) ≤ n = omega (arith, ge, length-take h xs) in
        ap (λ (k : ℕ). take k xs) least ∙ sym (take_all n (take h xs) le)

module _ {A : Type 0} (xs : List A) (h : ℕ) where
  -- the lowest of them
  pub lowest : (n : ℕ) → reverse (take (min h n) xs) ≡ drop (length (reverse (take h xs)) - n) (reverse (take h xs))
  lowest n = ap reverse (take_least xs h n) ∙ reverse-take (take h xs) n

  -- all but the topmost
  pub all_but : (n : ℕ) → h ≤ length xs → reverse (take (h - n) xs) ≡ drop n (reverse (take h xs))
  all_but n le =
      let m = length (take h xs) - n in
      let k : h - n ≡ length (take h xs) - n = omega (arith, length-take h xs, le) in
      let few : length (take h xs) - n ≤ h = omega (arith, length-take h xs) in
      ap (λ (j : ℕ). reverse (take j xs)) k ∙ (ap reverse (sym (take-take m h xs few)) ∙ reverse-take_but (take h xs) n)

take_set : {A : Type 0} (xs : List A) (h j : ℕ) (v : A) → take h (set xs j v) ≡ set (take h xs) j v
take_set [] zero j v = refl
take_set [] (suc h) j v = refl
take_set (x ∷ xs) zero j v = refl
take_set (x ∷ xs) (suc h) zero v = refl
take_set {A = A} (x ∷ xs) (suc h) (suc j) v = ap (λ (z : List A). x ∷ z) (take_set xs h j v)

-- one that is in use is set, counted from the top
pub set_below : {A : Type 0} (xs : List A) (h i : ℕ) (v : A) → i < h → h ≤ length xs → reverse (take h (set xs (h - 1 - i) v)) ≡ set (reverse (take h xs)) i v
set_below {A = A} xs h i v lt le =
    let n : length (take h xs) ≡ h = omega (arith, length-take h xs, le) in
    let l : i < length (take h xs) = omega (arith, n, lt) in
    let k : h - 1 - i ≡ length (take h xs) - 1 - i = omega (arith, n) in
    ap reverse (take_set xs h (h - 1 - i) v) ∙ (ap (λ (m : ℕ). reverse (set (take h xs) m v)) k ∙ reverse-set (take h xs) i v l)
