-- How far a range goes, in the numbers of the code.
use Rattle.std.proofs.Common.{◌≡◌, ◌≢◌, ℕ, zero, suc, ◌+◌, ◌-◌, ◌*◌, ◌/◌, ◌<◌, ◌≤◌, ◌^◌, ℤ, pos, negsuc, ◌+ℤ◌, ◌-ℤ◌, ◌*ℤ◌, neg_ℤ, ◌≤ℤ◌, ◌<ℤ◌, w32, SFits, FitsSigned, to_z, of_z, true, false, int_lt, refl, sym, ◌∙◌, ap, subst, arith}
use Rattle.std.proofs.Math.Nat.{le-div_iff_mul-le}
use Rattle.std.proofs.lemmas.Int.{ints, by_lt_z}
use Rattle.std.specs.Int.RustNames.{unsigned_abs}
use Rattle.arena_heap.specs.Values.{IsSmall}
use Rattle.py_values.specs.Shown.{at_least_zero, range_len}

within_span : (k m s : ℕ) → 0 < s → k < (m + (s - 1)) / s → k * s < m
within_span k m s h lt =
    let whole : suc k * s ≤ m + (s - 1) = (le-div_iff_mul-le {k = s} {x = suc k} {y = m + (s - 1)} h).0 (omega arith) in
    omega (arith, whole)

below_least : (z : ℤ) (w : ℕ) → w < at_least_zero z → pos w <ℤ z
below_least (pos n) w h = omega (arith, ints)
below_least (negsuc n) w h = absurd (omega arith)

-- the way from the start of a range to one of its numbers, upwards or downwards
pub record Way (start stop step : ℤ) (k size : ℕ) : Type 0 where
  pub up : pos 0 <ℤ step → (pos (k * size) <ℤ (stop -ℤ start)) × (pos (k * size) ≡ pos k *ℤ step)
  pub down : step ≤ℤ pos 0 → (pos (k * size) <ℤ (start -ℤ stop)) × (neg_ℤ (pos (k * size)) ≡ pos k *ℤ step)

pub way : (start stop step : ℤ) (k size : ℕ) → step ≢ pos 0 → size ≡ unsigned_abs step → k < range_len start stop step → Way start stop step k size
way start stop (pos zero) k size ne e lt = absurd (ne refl)
way start stop (pos (suc s)) k size ne e lt =
    let w = within_span k (at_least_zero (stop -ℤ start)) (suc s) (omega arith) lt in
    subst (λ (j : ℕ). Way start stop (pos (suc s)) k j) (sym e)
    (record { up = λ h. (below_least (stop -ℤ start) (k * suc s) w, refl); down = λ h. absurd (omega (arith, ints)) })
way start stop (negsuc s) k size ne e lt =
    let less : k < (at_least_zero (start -ℤ stop) + (suc s - 1)) / suc s = subst (λ (j : ℕ). k < (at_least_zero (start -ℤ stop) + j) / suc s) (omega arith) lt in
    let w = within_span k (at_least_zero (start -ℤ stop)) (suc s) (omega arith) less in
    subst (λ (j : ℕ). Way start stop (negsuc s) k j) (sym e)
    (record { up = λ h. absurd (omega (arith, ints)); down = λ h. (below_least (start -ℤ stop) (k * suc s) w, refl) })

pub is_up : (step : ℤ) → SFits w32 step → int_lt (pos 0) (to_z w32 (of_z w32 step)) ≡ true → pos 0 <ℤ step
is_up step f h = grind (arith, ints)

pub is_down : (step : ℤ) → SFits w32 step → int_lt (pos 0) (to_z w32 (of_z w32 step)) ≡ false → step ≤ℤ pos 0
is_down step f h = grind (arith, ints)

-- the way is short, whatever the direction
pub any_small : (start stop step : ℤ) (k size : ℕ) → IsSmall start → IsSmall stop → Way start stop step k size → k * size < 2 ^ 31
any_small start stop step k size p q w = by_lt_z (pos 0) step (λ h. up_small (w.up h).0) (λ h. down_small (w.down h).0)
  where
    up_small : pos (k * size) <ℤ (stop -ℤ start) → k * size < 2 ^ 31
    up_small h = omega (arith, ints)

    down_small : pos (k * size) <ℤ (start -ℤ stop) → k * size < 2 ^ 31
    down_small h = omega (arith, ints)

pub fits_up : (start stop : ℤ) (w : ℕ) → IsSmall start → IsSmall stop → pos w <ℤ (stop -ℤ start) → FitsSigned w32 (to_z w32 (of_z w32 start) +ℤ to_z w32 w)
fits_up start stop w p q h = omega (arith, ints)

pub fits_down : (start stop : ℤ) (w : ℕ) → IsSmall start → IsSmall stop → pos w <ℤ (start -ℤ stop) → FitsSigned w32 (to_z w32 (of_z w32 start) -ℤ to_z w32 w)
fits_down start stop w p q h = omega (arith, ints)

pub number_up : (start stop : ℤ) (w : ℕ) → IsSmall start → IsSmall stop → pos w <ℤ (stop -ℤ start) → to_z w32 (of_z w32 (to_z w32 (of_z w32 start) +ℤ to_z w32 w)) ≡ start +ℤ pos w
number_up start stop w p q h = omega (arith, ints)

pub small_up : (start stop : ℤ) (w : ℕ) → IsSmall start → IsSmall stop → pos w <ℤ (stop -ℤ start) → IsSmall (start +ℤ pos w)
small_up start stop w p q h = (omega (arith, ints), omega (arith, ints))

pub number_down : (start stop : ℤ) (w : ℕ) → IsSmall start → IsSmall stop → pos w <ℤ (start -ℤ stop) → to_z w32 (of_z w32 (to_z w32 (of_z w32 start) -ℤ to_z w32 w)) ≡ start +ℤ neg_ℤ (pos w)
number_down start stop w p q h = omega (arith, ints)

pub small_down : (start stop : ℤ) (w : ℕ) → IsSmall start → IsSmall stop → pos w <ℤ (start -ℤ stop) → IsSmall (start +ℤ neg_ℤ (pos w))
small_down start stop w p q h = (omega (arith, ints), omega (arith, ints))

-- what the code counts
pub counted : (start stop step span : ℤ) (size : ℕ) → step ≢ pos 0 → size ≡ unsigned_abs step → (pos 0 <ℤ step → span ≡ stop -ℤ start) → (step ≤ℤ pos 0 → span ≡ start -ℤ stop)
    → (at_least_zero span + (size - 1)) / size ≡ range_len start stop step
counted start stop (pos zero) span size ne e up down = absurd (ne refl)
counted start stop (pos (suc s)) span size ne e up down =
    ap (λ (j : ℕ). (at_least_zero span + (j - 1)) / j) e ∙ ap (λ (z : ℤ). (at_least_zero z + (suc s - 1)) / suc s) (up (omega (arith, ints)))
counted start stop (negsuc s) span size ne e up down =
    ap (λ (j : ℕ). (at_least_zero span + (j - 1)) / j) e ∙ (ap (λ (z : ℤ). (at_least_zero z + (suc s - 1)) / suc s) (down (omega (arith, ints))) ∙ ap (λ (j : ℕ). (at_least_zero (start -ℤ stop) + j) / suc s) (omega arith))

pub span_up : (start stop span : ℤ) (bits : ℕ) → IsSmall start → IsSmall stop → to_z w32 bits ≡ to_z w32 (of_z w32 (to_z w32 (of_z w32 stop) -ℤ to_z w32 (of_z w32 start))) → to_z w32 bits ≡ span → span ≡ stop -ℤ start
span_up start stop span bits p q e f = omega (arith, ints)

pub not_both : (z : ℤ) → pos 0 <ℤ z → z ≤ℤ pos 0 → ⊥
not_both z p q = omega (arith, ints)

pub small_same : (z : ℤ) → IsSmall z → to_z w32 (of_z w32 z) ≡ z
small_same z p = omega (arith, ints)

pub len_same : (start stop step : ℤ) → IsSmall start → IsSmall stop → IsSmall step → range_len (to_z w32 (of_z w32 start)) (to_z w32 (of_z w32 stop)) (to_z w32 (of_z w32 step)) ≡ range_len start stop step
len_same start stop step p q r =
    ap (λ (z : ℤ). range_len z (to_z w32 (of_z w32 stop)) (to_z w32 (of_z w32 step))) (small_same start p)
    ∙ (ap (λ (z : ℤ). range_len start z (to_z w32 (of_z w32 step))) (small_same stop q) ∙ ap (λ (z : ℤ). range_len start stop z) (small_same step r))

pub number_same : (start step n : ℤ) (k : ℕ) → IsSmall start → IsSmall step → IsSmall n → n ≡ to_z w32 (of_z w32 start) +ℤ pos k *ℤ to_z w32 (of_z w32 step) → start +ℤ pos k *ℤ step ≡ to_z w32 (of_z w32 n)
number_same start step n k p q r e =
    ap (λ (z : ℤ). z +ℤ pos k *ℤ step) (sym (small_same start p)) ∙ (ap (λ (z : ℤ). to_z w32 (of_z w32 start) +ℤ pos k *ℤ z) (sym (small_same step q)) ∙ (sym e ∙ sym (small_same n r)))
