-- Loops that test elements one after another.
use Rattle.std.proofs.Common.{◌≡◌, ℕ, ◌+◌, ◌<◌, ◌≤◌, ◌↔◌, List, length, get_or, inl, inr, Bool, true, false, IsTrue, refl, sym, subst, ◌∙◌, arith}
use Rattle.std.specs.Prelude.{All}
use Rattle.std.proofs.lemmas.Bool.{cases_lt, false≢true}
use Rattle.std.proofs.lemmas.List.{get_or_default, get_or_read}

-- it holds of the first elements
abbrev pub AllTo : {X : Type 0} → (X → Type 0) → List X → ℕ → Type 0
AllTo {X} P xs n = (k : ℕ) (d : X) → k < n → P (get_or xs k d)

module _ {X : Type 0} (P : X → Type 0) (xs : List X) where
  pub none_yet : AllTo P xs 0
  none_yet k d lt = absurd (omega (arith, lt))

  pub one_more : (i : ℕ) (x : X) → i < length xs → x ≡ get_or xs i x → P x → AllTo P xs i → AllTo P xs (i + 1)
  one_more i x lt e p all k d below = elim (cases_lt k i) [
    | inl low ↦ all k d low
    | inr ge ↦
        let here : i ≡ k = omega (arith, below, ge) in
        subst (λ n. P (get_or xs n d)) here (subst P (get_or_read xs i x lt e d) p)
  ]

  -- the same of an element that is read with some element for want of one
  pub one_more_at : (i : ℕ) (d : X) → i < length xs → P (get_or xs i d) → AllTo P xs i → AllTo P xs (i + 1)
  one_more_at i d lt p all = one_more i (get_or xs i d) lt (get_or_default xs i d (get_or xs i d) lt) p all

  pub one_fails_at : (i : ℕ) (d : X) → i < length xs → (P (get_or xs i d) → ⊥) → All P xs → ⊥
  one_fails_at i d lt never all = never (all i d lt)

  pub all_of_them : (i : ℕ) → length xs ≤ i → AllTo P xs i → All P xs
  all_of_them i le all k d below = all k d (omega (arith, below, le))

  pub one_fails : (i : ℕ) (x : X) → i < length xs → x ≡ get_or xs i x → (P x → ⊥) → All P xs → ⊥
  one_fails i x lt e never all = never (subst P (sym e) (all i x lt))

-- a test and what it tests
-- ========================

-- a test that is false tells that nothing holds
pub not_so : {P : Type 0} (b : Bool) → (P → IsTrue b) → b ≡ false → P → ⊥
not_so b back is p = false≢true (sym is ∙ back p)

-- what holds of nothing is tested false
pub tests_no : {P : Type 0} → (P → ⊥) → IsTrue false ↔ P
tests_no never = (λ t. absurd (false≢true t), λ p. absurd (never p))

-- and what holds is tested true
pub tests_yes : {P : Type 0} → P → IsTrue true ↔ P
tests_yes p = (λ t. p, λ q. refl)
