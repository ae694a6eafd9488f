use Rattle.std.proofs.Common.{arith, inl, inr, sym, ap, ◌∙◌, Ok, w32, w64, ◌≡◌, ◌^◌, ◌-◌, ℤ, pos, neg_ℤ, ◌≤ℤ◌, ◌<ℤ◌, SFits, to_z, of_z, true, false, int_lt}
use Rattle.std.proofs.lemmas.Int.{ints}
use Rattle.py_values.proofs.Range.{checked_small, checked_big}
use Rattle.py_values.specs.Range.{IsSmall}
use Rattle.py_values.proofs.small_int.SmallInt.checked.Goals as goal
use Rattle.py_values.proofs.small_int.SmallInt.checked.Goals.{then-n-lt-LEAST-via-then-n-lt-LEAST, then-n-lt-LEAST-via-else-n-lt-LEAST+then-n-gt-GREATEST}

low : (n : ℤ) → SFits w64 n → int_lt (to_z w64 (of_z w64 n)) (neg_ℤ (pos (2 ^ 30))) ≡ true → n <ℤ neg_ℤ (pos (2 ^ 30))
low n f h = grind (arith, ints)

high : (n : ℤ) → SFits w64 n → int_lt (pos (2 ^ 30 - 1)) (to_z w64 (of_z w64 n)) ≡ true → pos (2 ^ 30) ≤ℤ n
high n f h = grind (arith, ints)

least : (n : ℤ) → SFits w64 n → int_lt (to_z w64 (of_z w64 n)) (neg_ℤ (pos (2 ^ 30))) ≡ false → neg_ℤ (pos (2 ^ 30)) ≤ℤ n
least n f h = grind (arith, ints)

greatest : (n : ℤ) → SFits w64 n → int_lt (pos (2 ^ 30 - 1)) (to_z w64 (of_z w64 n)) ≡ false → n <ℤ pos (2 ^ 30)
greatest n f h = grind (arith, ints)

narrowed : (n : ℤ) → SFits w64 n → IsSmall n → to_z w32 (of_z w32 (to_z w64 (of_z w64 n))) ≡ n
narrowed n f h = omega (arith, ints)

pub returns-then-n-lt-LEAST : goal.returns-then-n-lt-LEAST
returns-then-n-lt-LEAST c =
    elim c.then-n-lt-LEAST.branch [ then-n-lt-LEAST-via-then-n-lt-LEAST w ↦ sym (checked_big c.args.n (inl (low c.args.n c.ranges.n w.if-n-lt-LEAST.true))) | then-n-lt-LEAST-via-else-n-lt-LEAST+then-n-gt-GREATEST w ↦ sym (checked_big c.args.n (inr (high c.args.n c.ranges.n w.if-n-gt-GREATEST.true))) ]

pub returns : goal.returns
returns c =
    let n = c.args.n in
    let small : IsSmall n = (least n c.ranges.n c.if-n-lt-LEAST.false, greatest n c.ranges.n c.if-n-gt-GREATEST.false) in
    ap Ok (narrowed n c.ranges.n small) ∙ sym (checked_small n small)
