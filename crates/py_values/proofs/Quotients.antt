-- Division that rounds towards minus infinity: the quotient and the remainder belong together, and no others do.
use Rattle.std.proofs.Common.{◌≡◌, ◌≢◌, ℕ, zero, suc, ◌≤◌, ℤ, pos, negsuc, neg_ℤ, ◌+ℤ◌, ◌-ℤ◌, ◌*ℤ◌, ◌≤ℤ◌, ◌<ℤ◌, w32, SFits, to_z, of_z, false, int_lt, refl, ap, ◌∙◌, subst, arith, mul-le-mul_right}
use Rattle.std.specs.Int.{int_rem_euclid, IsNonNegative}
use Rattle.std.proofs.lemmas.Int.{ints, by_lt_z}
use Rattle.std.proofs.lemmas.Grind.{common_steps}
use Rattle.py_values.specs.Range.{IsSmall}
use Rattle.py_values.specs.Division.{IsDivision, floor_quotient, floor_remainder}

-- a greater quotient is worth a whole divisor more
step : (x y : ℤ) (b : ℕ) → x <ℤ y → (x *ℤ pos b +ℤ pos b) ≤ℤ (y *ℤ pos b)
step (pos m) (pos n) b h = let s : suc m ≤ n = omega (arith, ints) in omega (arith, ints, mul-le-mul_right b s)
step (pos m) (negsuc n) b h = absurd (omega (arith, ints))
step (negsuc m) (pos n) b h = omega (arith, ints)
step (negsuc m) (negsuc n) b h = let s : suc n ≤ m = omega (arith, ints) in omega (arith, ints, mul-le-mul_right b s)

no_less : (a q r s t : ℤ) (b : ℕ) → IsDivision a (pos b) q r → IsDivision a (pos b) s t → q <ℤ s → ⊥
no_less a q r s t b d e h =
    let k = step q s b h in
    let p = d.whole in
    let o = e.whole in
    let u : r <ℤ pos b = d.remainder.1 in
    let v : pos 0 ≤ℤ t = e.remainder.0 in
    omega (arith, ints)

same_quotient : (a q r s t : ℤ) (b : ℕ) → IsDivision a (pos b) q r → IsDivision a (pos b) s t → q ≡ s
same_quotient a q r s t b d e =
    by_lt_z q s (λ h. absurd (no_less a q r s t b d e h)) (λ h. by_lt_z s q (λ k. absurd (no_less a s t q r b e d k)) (λ k. omega (arith, ints)))

same_remainder : (a p r t : ℤ) → a ≡ p +ℤ r → a ≡ p +ℤ t → r ≡ t
same_remainder a p r t d e = omega (arith, ints)

unique : (a q r s t : ℤ) (b : ℕ) → IsDivision a (pos b) q r → IsDivision a (pos b) s t → (q ≡ s) × (r ≡ t)
unique a q r s t b d e =
    let k = same_quotient a q r s t b d e in
    (k, same_remainder a (s *ℤ pos b) r t (subst (λ (x : ℤ). a ≡ x *ℤ pos b +ℤ r) k d.whole) e.whole)

divides : (a b : ℤ) → b ≢ pos 0 → IsDivision a b (floor_quotient a b) (floor_remainder a b)
divides a b h = grind (arith, ints, common_steps)

turned : (a q r : ℤ) (b : ℕ) → IsDivision a (negsuc b) q r → IsDivision (neg_ℤ a) (pos (suc b)) q (neg_ℤ r)
turned a q r b d = record { whole = whole q d.whole; remainder = (omega (arith, ints, d.remainder.1), omega (arith, ints, d.remainder.0)) }
  where
    whole : (q : ℤ) → a ≡ q *ℤ negsuc b +ℤ r → neg_ℤ a ≡ q *ℤ pos (suc b) +ℤ neg_ℤ r
    whole (pos m) e = omega (arith, ints)
    whole (negsuc m) e = omega (arith, ints)

pub only : (a b q r : ℤ) → IsDivision a b q r → (q ≡ floor_quotient a b) × (r ≡ floor_remainder a b)
only a (pos zero) q r d = absurd (omega (arith, ints, d.remainder.0, d.remainder.1))
only a (pos (suc b)) q r d = unique a q r _ _ (suc b) d (divides a (pos (suc b)) (λ e. absurd cc))
only a (negsuc b) q r d =
    let u = unique (neg_ℤ a) q (neg_ℤ r) _ _ (suc b) (turned a q r b d) (divides (neg_ℤ a) (pos (suc b)) (λ e. absurd cc)) in
    (u.0, double r ∙ ap neg_ℤ u.1)
  where
    double : (z : ℤ) → z ≡ neg_ℤ (neg_ℤ z)
    double z = omega (arith, ints)

-- what the code computes over a negative divisor
pub negative_remainder : (a b r : ℤ) → b ≤ℤ pos 0 → b ≢ pos 0 → r ≡ int_rem_euclid (neg_ℤ a) (neg_ℤ b) → neg_ℤ r ≡ floor_remainder a b
negative_remainder a (pos zero) r h n e = absurd (n refl)
negative_remainder a (pos (suc b)) r h n e = absurd (omega (arith, ints))
negative_remainder a (negsuc b) r h n e = ap neg_ℤ e

pub negated : (r : ℤ) → SFits w32 r → IsNonNegative r → to_z w32 (of_z w32 (pos 0 -ℤ to_z w32 (of_z w32 r))) ≡ neg_ℤ r
negated (pos n) f h = omega (arith, ints)
negated (negsuc n) f h = absurd h

pub small_negated : (a : ℤ) → IsSmall a → to_z w32 (of_z w32 (pos 0 -ℤ to_z w32 (of_z w32 a))) ≡ neg_ℤ a
small_negated a h = omega (arith, ints)

pub not_above : (b : ℤ) → SFits w32 b → int_lt (pos 0) (to_z w32 (of_z w32 b)) ≡ false → b ≤ℤ pos 0
not_above b f h = grind (arith, ints)
