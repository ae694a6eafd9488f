-- Numbers past a bound.
use Rattle.std.proofs.Common.{◌≡◌, ℕ, ◌+◌, ◌-◌, ◌*◌, ◌≤◌, ◌<◌, ◌⊎◌, List, [], ◌∷◌, inl, inr, refl, sym, ap, arith}
use Rattle.mpy_words.specs.Number.{value_of}

-- Two values past the bound give no number, whatever follows.
past : (most a b : ℕ) (bytes : List ℕ) → most < a → most < b → value_of most a bytes ≡ value_of most b bytes
unfolding value_of
past most a b [] g h = grind (arith, g, h)
past most a b (byte ∷ bytes) g h =
    let next : value_of most (10 * a + (byte - 48)) bytes ≡ value_of most (10 * b + (byte - 48)) bytes =
    past most (10 * a + (byte - 48)) (10 * b + (byte - 48)) bytes (omega (arith, g)) (omega (arith, h)) in
    rw next refl

within_or_past : (most n : ℕ) → (n ≤ most) ⊎ (most < n)
within_or_past most n = grind arith

-- So has one that was cut to one past it.
pub bounded_value : (most n m : ℕ) (bytes : List ℕ) → (n ≤ most → m ≡ n) → (most < n → m ≡ most + 1)
    → value_of most n bytes ≡ value_of most m bytes
bounded_value most n m bytes within over =
    elim (within_or_past most n) [
      | inl h ↦ ap (λ (k : ℕ). value_of most k bytes) (sym (within h))
      | inr h ↦ past most n m bytes h (let e = over h in omega (arith, e))
    ]
