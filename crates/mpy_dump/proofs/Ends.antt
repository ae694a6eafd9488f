-- Ends of lines that were made for the bytes at the places up to one.
use Rattle.std.proofs.Common.{◌≡◌, ℕ, ◌+◌, ◌-◌, ◌*◌, ◌/◌, ◌%◌, ◌<◌, ◌≤◌, List, [], ◌∷◌, length, get_or, set, drop, refl, sym, subst, inl, inr, arith}
use Rattle.std.proofs.lemmas.Bool.{cases_lt}
use Rattle.std.proofs.lemmas.List.{get_or-set_other}
use Rattle.std.proofs.lemmas.Grind.{get_or-set_at}
use Rattle.mpy_tree.specs.Raw.{Module}
use Rattle.mpy_dump.specs.declared.short.Short.{Short}
use Rattle.mpy_dump.specs.Short.{IsTail, two_bytes}

abbrev pub one_byte : ℕ → List ℕ
one_byte byte = byte ∷ []

abbrev pub Made : Module → (ℕ → List ℕ) → List Short → ℕ → Type 0
Made m bytes tails end = (place : ℕ) (other : Short) → place < end → IsTail m (bytes place) (get_or tails place other)

pub made_more : (m : Module) (bytes : ℕ → List ℕ) (tails : List Short) (end : ℕ) (tail : Short) → end < length tails → Made m bytes tails end → IsTail m (bytes end) tail → Made m bytes (set tails end tail) (end + 1)
made_more m bytes tails end tail within made is place other below = elim (cases_lt place end) [
  | inl lower ↦ subst (IsTail m (bytes place)) (sym (get_or-set_other tails end place tail other (λ same. omega (arith, same, lower)))) (made place other lower)
  | inr last ↦
      let same : place ≡ end = omega (arith, below, last) in
      subst (IsTail m (bytes place)) (sym (get_or-set_at tails end place tail other same within)) (subst (λ p. IsTail m (bytes p) tail) (sym same) is)
]

-- the bytes of a pair's place
pub pair_is : (first number place : ℕ) → 16 ≤ first → number < 128 → place ≡ 128 * (first - 16) + number → two_bytes place ≡ first ∷ number ∷ []
pair_is first number place least few is =
    let high : 16 + place / 128 ≡ first = omega (arith, least, few, is) in
    let low : place % 128 ≡ number = omega (arith, least, few, is) in
    λ i. high i ∷ (low i ∷ [])

pub first_two : (bytes : List ℕ) → 2 ≤ length bytes → bytes ≡ get_or bytes 0 0 ∷ get_or bytes 1 0 ∷ drop 2 bytes
first_two [] h = absurd (omega (arith, h))
first_two (first ∷ []) h = absurd (omega (arith, h))
first_two (first ∷ second ∷ rest) h = refl
