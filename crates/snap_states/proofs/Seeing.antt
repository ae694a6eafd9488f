-- Keys that are looked at one after another, of which none may come twice.
use Rattle.std.proofs.Common.{◌≡◌, ℕ, ◌+◌, ◌<◌, ◌⊎◌, inl, inr, Bool, true, false, Option, Some, sym, ap, subst, ◌∙◌, arith}
use Rattle.std.proofs.lemmas.Bool.{cases_lt, false≢true}

-- no key of the first ones comes twice, and just these are held
pub record Seen {K : Type 0} (key : ℕ → Option K) (n : ℕ) (has : K → Bool) : Type 0 where
  pub once : (i j : ℕ) → i < j → j < n → key i ≡ key j → ⊥
  pub held : (k : K) → has k ≡ true → (i : ℕ) × (i < n) × (key i ≡ Some k)
  pub holds : (i : ℕ) (k : K) → i < n → key i ≡ Some k → has k ≡ true

module _ {K : Type 0} (key : ℕ → Option K) where
  pub none_seen : (has : K → Bool) → ((k : K) → has k ≡ false) → Seen key 0 has
  none_seen has none = record {
    once = λ i j lt below e. omega (arith, below);
    held = λ k h. absurd (false≢true (sym (none k) ∙ h));
    holds = λ i k lt e. absurd (omega (arith, lt));
  }

  -- a key that isn't held comes for the first time
  new_one : (n : ℕ) (has : K → Bool) (k : K) → Seen key n has → key n ≡ Some k → has k ≡ false → (i : ℕ) → i < n → key i ≡ key n → ⊥
  new_one n has k seen here never i lt e = false≢true (sym never ∙ seen.holds i k lt (e ∙ here))

  pub one_seen : (n : ℕ) (has more : K → Bool) (k : K) → Seen key n has → key n ≡ Some k → has k ≡ false
      → ((x : K) → more x ≡ true → (has x ≡ true) ⊎ (x ≡ k)) → ((x : K) → has x ≡ true → more x ≡ true) → more k ≡ true → Seen key (n + 1) more
  one_seen n has more k seen here never back old own = record {
    once = λ i j lt below e. elim (cases_lt j n) [
      | inl low ↦ seen.once i j lt low e
      | inr ge ↦
          let at : j ≡ n = omega (arith, below, ge) in
          new_one n has k seen here never i (omega (arith, lt, at)) (e ∙ ap key at)
    ];
    held = λ x h. elim (back x h) [
      | inl was ↦ let f = seen.held x was in (f.0, omega (arith, f.1), f.2)
      | inr is ↦ (n, omega arith, here ∙ ap Some (sym is))
    ];
    holds = λ i x lt e. elim (cases_lt i n) [
      | inl low ↦ old x (seen.holds i x low e)
      | inr ge ↦
          let at : i ≡ n = omega (arith, lt, ge) in
          let same : Some k ≡ Some x = sym here ∙ (ap key (sym at) ∙ e) in
          let is : k ≡ x = cc same in
          subst (λ z. more z ≡ true) is own
    ];
  }

  -- a key that is held comes twice
  pub comes_twice : (n limit : ℕ) (has : K → Bool) (k : K) → Seen key n has → key n ≡ Some k → has k ≡ true → n < limit
      → ((i j : ℕ) → i < j → j < limit → key i ≡ key j → ⊥) → ⊥
  comes_twice n limit has k seen here so within once = let f = seen.held k so in once f.0 n f.1 within (f.2 ∙ sym here)
