-- Names that are among the first locals, which have a short form.
use Rattle.std.proofs.Common.{◌≡◌, ℕ, zero, suc, ◌+◌, ◌<◌, ◌≤◌, Bool, true, false, not, cond, ◌||◌, nat_lt, List, [], ◌∷◌, length, take, min, Some, None, position, sym, arith}
use Rattle.std.specs.List.{list_any, position_or_len}
use Rattle.std.proofs.lemmas.Bool.Decides.{nat_tests}
use Rattle.emit_measures.specs.Lengths.{slot_length}

first_here : (b : Bool) (n k l : ℕ) → b ≡ true → (cond (not b) (1 + k) 0 < suc n) × (cond (not b) (1 + k) 0 < suc l)
first_here true n k l e = (omega arith, omega arith)
first_here false n k l e = absurd cc

later : (b rest : Bool) (n k l : ℕ) → (b || rest) ≡ true → (rest ≡ true → (k < n) × (k < l)) → (cond (not b) (1 + k) 0 < suc n) × (cond (not b) (1 + k) 0 < suc l)
later true rest n k l e behind = (omega arith, omega arith)
later false rest n k l e behind = let h = behind e in (omega (arith, h.0), omega (arith, h.1))

-- what is among the first has its place there
among : {X : Type 0} (p : X → Bool) (xs : List X) (n : ℕ) → list_any p (take n xs) ≡ true → (position_or_len p xs < n) × (position_or_len p xs < length xs)
among p [] zero e = absurd cc
among p [] (suc n) e = absurd cc
among p (x ∷ xs) zero e = absurd cc
among p (x ∷ xs) (suc n) e = later (p x) _ n _ _ e (among p xs n)

behind_all : (b rest : Bool) (n k l : ℕ) → (b || rest) ≡ false → (rest ≡ false → k < l → n ≤ k) → cond (not b) (1 + k) 0 < suc l → suc n ≤ cond (not b) (1 + k) 0
behind_all true rest n k l e behind h = absurd cc
behind_all false rest n k l e behind h = let m = behind e (omega (arith, h)) in omega (arith, m)

-- what is not has its place behind them
not_among : {X : Type 0} (p : X → Bool) (xs : List X) (n : ℕ) → list_any p (take n xs) ≡ false → position_or_len p xs < length xs → n ≤ position_or_len p xs
not_among p [] n e h = absurd (omega (arith, h))
not_among p (x ∷ xs) zero e h = omega arith
not_among p (x ∷ xs) (suc n) e h = behind_all (p x) _ n _ _ e (not_among p xs n) h

short : (k l n : ℕ) → n ≤ 16 → k < n → k < l → slot_length (cond (nat_lt k l) (Some k) None) ≡ 1
short k l n few early there = grind (arith, nat_tests)

long : (k l n : ℕ) → n ≡ min l 16 → (k < l → n ≤ k) → slot_length (cond (nat_lt k l) (Some k) None) ≡ 4
long k l n few late = grind (arith, nat_tests)

-- whether a name is among the first 16 tells how long its code is
pub early_length : {X : Type 0} (p : X → Bool) (xs : List X) (n : ℕ) (b : Bool) → n ≡ min (length xs) 16 → list_any p (take n xs) ≡ b → cond b 1 4 ≡ slot_length (position p xs)
early_length p xs n true few e = let h = among p xs n e in sym (short (position_or_len p xs) (length xs) n (omega (arith, few)) h.0 h.1)
early_length p xs n false few e = sym (long (position_or_len p xs) (length xs) n few (not_among p xs n e))
