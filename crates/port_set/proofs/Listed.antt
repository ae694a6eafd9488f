-- Calls that are listed to fail.
use Rattle.std.proofs.Common.{◌≡◌, ℕ, zero, suc, ◌+◌, ◌-◌, ◌^◌, ◌<◌, ◌≤◌, true, false, Bool, List, [], ◌∷◌, length, get_or, inl, inr, refl, sym, ap, subst, ◌∙◌, arith}
use Rattle.std.specs.Prelude.{Contains, min, nat_eq, ◌||◌, if◌then◌else◌}
use Rattle.std.specs.List.{list_any}
use Rattle.std.proofs.lemmas.Bool.{cases_lt}
use Rattle.port_set.specs.Counts.{failing_below}

any_step : (b : Bool) (x y : ℕ) (ys : List ℕ) → nat_eq x y ≡ b → (Contains ys x → Contains (y ∷ ys) x) → (list_any (nat_eq x) ys ≡ true → Contains ys x) → (b || list_any (nat_eq x) ys) ≡ true → Contains (y ∷ ys) x
any_step true x y ys e more others any = let same : y ≡ x = grind arith in (zero, omega arith, same)
any_step false x y ys e more others any = more (others any)

pub any_contains : (xs : List ℕ) (x : ℕ) → list_any (nat_eq x) xs ≡ true → Contains xs x
any_contains [] x e = absurd cc
any_contains (y ∷ ys) x e =
    any_step (nat_eq x y) x y ys refl (λ c. (suc c.0, (let lt = c.1 in omega arith), c.2)) (any_contains ys x) e

same_step : (b : Bool) (x y : ℕ) (rest : Bool) → nat_eq x y ≡ b → y ≡ x → (b || rest) ≡ true
same_step true x y rest e same = refl
same_step false x y rest e same = grind arith

other_step : (b rest : Bool) → rest ≡ true → (b || rest) ≡ true
other_step true rest e = refl
other_step false rest e = e

at_place : (y : ℕ) (ys : List ℕ) (x k : ℕ) → (Contains ys x → list_any (nat_eq x) ys ≡ true) → k < length (y ∷ ys) → get_or (y ∷ ys) k x ≡ x → list_any (nat_eq x) (y ∷ ys) ≡ true
at_place y ys x zero others lt same = same_step (nat_eq x y) x y (list_any (nat_eq x) ys) refl same
at_place y ys x (suc k) others lt same = other_step (nat_eq x y) (list_any (nat_eq x) ys) (others (k, omega (arith, lt), same))

pub contains_any : (xs : List ℕ) (x : ℕ) → Contains xs x → list_any (nat_eq x) xs ≡ true
contains_any [] x c = absurd (let lt = c.1 in omega (arith, lt))
contains_any (y ∷ ys) x c = at_place y ys x c.0 (contains_any ys x) c.1 c.2

-- one call more
one_least : (b : Bool) (n : ℕ) → n ≤ (if b then suc n else n)
one_least true n = omega arith
one_least false n = omega arith

one_most : (b : Bool) (n : ℕ) → (if b then suc n else n) ≤ n + 1
one_most true n = omega arith
one_most false n = omega arith

none_more : (b : Bool) (n : ℕ) → (b ≡ true → ⊥) → (if b then suc n else n) ≤ n
none_more true n not = absurd (not refl)
none_more false n not = omega arith

-- fewer calls
pub fewer : (failing : List ℕ) (a b : ℕ) → a ≤ b → failing_below failing a ≤ failing_below failing b
fewer failing a zero le = let e : a ≡ zero = omega (arith, le) in subst (λ (n : ℕ). failing_below failing n ≤ failing_below failing zero) (sym e) (omega arith)
fewer failing a (suc b) le = elim (cases_lt b a) [
  | inl lt ↦ let e : a ≡ suc b = omega (arith, le, lt) in subst (λ (n : ℕ). failing_below failing n ≤ failing_below failing (suc b)) (sym e) (omega arith)
  | inr past ↦
      let before : failing_below failing a ≤ failing_below failing b = fewer failing a b past in
      let step : failing_below failing b ≤ failing_below failing (suc b) = one_least (list_any (nat_eq b) failing) (failing_below failing b) in
      omega (arith, before, step)
]

-- the call behind one, whose number may stand still
step_most : (failing : List ℕ) (n m : ℕ) → m ≤ n + 1 → failing_below failing m ≤ failing_below failing n + 1
step_most failing n m le = elim (cases_lt n m) [
  | inl lt ↦
      let e : suc n ≡ m = omega (arith, le, lt) in
      subst (λ (k : ℕ). failing_below failing k ≤ failing_below failing n + 1) e (one_most (list_any (nat_eq n) failing) (failing_below failing n))
  | inr past ↦ let less = fewer failing m n past in omega (arith, less)
]

-- and where the one isn't listed
step_fine : (failing : List ℕ) (n m : ℕ) → m ≤ n + 1 → (Contains failing n → ⊥) → failing_below failing m ≤ failing_below failing n
step_fine failing n m le not = elim (cases_lt n m) [
  | inl lt ↦
      let e : suc n ≡ m = omega (arith, le, lt) in
      subst (λ (k : ℕ). failing_below failing k ≤ failing_below failing n) e
      (none_more (list_any (nat_eq n) failing) (failing_below failing n) (λ is. not (any_contains failing n is)))
  | inr past ↦ fewer failing m n past
]

-- the next call, whose number stands still at the end of its type
pub next_most : (failing : List ℕ) (n : ℕ) → failing_below failing (min (n + 1) (2 ^ 64 - 1)) ≤ failing_below failing n + 1
next_most failing n = step_most failing n (min (n + 1) (2 ^ 64 - 1)) (omega arith)

-- the next call isn't listed
pub next_fine : (failing : List ℕ) (n : ℕ) → (Contains failing n → ⊥) → failing_below failing (min (n + 1) (2 ^ 64 - 1)) ≤ failing_below failing n
next_fine failing n not = step_fine failing n (min (n + 1) (2 ^ 64 - 1)) (omega arith) not
