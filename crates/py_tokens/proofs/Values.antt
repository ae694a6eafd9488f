-- What is left of digits, and the value so far.
use Rattle.std.proofs.Common.{◌≡◌, ℕ, ◌+◌, ◌*◌, ◌<◌, ◌≤◌, ◌↔◌, ◌⊎◌, inl, inr, min, Bool, true, false, List, [], ◌∷◌, length, take, drop, get_or, refl, sym, ap, ◌∙◌, subst, arith}
use Rattle.std.proofs.lemmas.List.{drop_more, drop_all}
use Rattle.std.proofs.lemmas.List.Sums.{fold_more}
use Rattle.std.proofs.lemmas.Bool.{cases_order}
use Rattle.std.proofs.Math.Nat.{mul-le-mul_left, le-mul_of_pos_right, min-eq_left, min-eq_right}
use Rattle.std.proofs.lemmas.Bool.Decides.{nat_tests}
use Rattle.py_tokens.specs.Digits.{IsDigitOf, IsDigits, digit_value, next_value, value_of}

-- what may stand behind a digit
abbrev pub GoesOn : ℕ → List ℕ → Type 0
GoesOn base [] = Unit {0}
GoesOn base (byte ∷ rest) = IsDigits base (byte ∷ rest) ⊎ ((byte ≡ 95) × IsDigits base rest)

-- what may be left, behind a digit or not
abbrev pub Remains : ℕ → Bool → List ℕ → Type 0
Remains base true rest = GoesOn base rest
Remains base false rest = IsDigits base rest

first_digit : (base byte : ℕ) (rest : List ℕ) → IsDigits base (byte ∷ rest) → IsDigitOf base byte × GoesOn base rest
first_digit base byte [] h = (h, tt)
first_digit base byte (next ∷ rest) h = h

from_digit : (base byte : ℕ) (rest : List ℕ) → IsDigitOf base byte → GoesOn base rest → IsDigits base (byte ∷ rest)
from_digit base byte [] h more = h
from_digit base byte (next ∷ rest) h more = (h, more)

no_underscore : (base : ℕ) → IsDigitOf base 95 → ⊥
no_underscore base h = elim (h.0) [ inl digit ↦ omega arith | inr letter ↦ elim letter [ inl a ↦ omega arith | inr a ↦ omega arith ] ]

not_underscore : (base byte : ℕ) → IsDigitOf base byte → byte ≡ 95 → ⊥
not_underscore base byte h is = no_underscore base (subst (IsDigitOf base) is h)

-- behind a digit the underscore may stand
pub past_underscore : (base : ℕ) (rest : List ℕ) → Remains base true (95 ∷ rest) ↔ Remains base false rest
past_underscore base rest = (
  λ h. elim h [ inl digits ↦ absurd (no_underscore base (first_digit base 95 rest digits).0) | inr other ↦ other.1 ],
  λ h. inr (refl, h),
)

pub no_other_underscore : (base : ℕ) (rest : List ℕ) → Remains base false (95 ∷ rest) → ⊥
no_other_underscore base rest h = no_underscore base (first_digit base 95 rest h).0

-- a digit may stand anywhere
pub past_digit : (base : ℕ) (after : Bool) (byte : ℕ) (rest : List ℕ) → IsDigitOf base byte → Remains base after (byte ∷ rest) ↔ Remains base true rest
past_digit base true byte rest is = (
  λ h. elim h [ inl digits ↦ (first_digit base byte rest digits).1 | inr other ↦ absurd (not_underscore base byte is other.0) ],
  λ h. inl (from_digit base byte rest is h),
)
past_digit base false byte rest is = (λ h. (first_digit base byte rest h).1, λ h. from_digit base byte rest is h)

pub no_other : (base : ℕ) (after : Bool) (byte : ℕ) (rest : List ℕ) → (IsDigitOf base byte → ⊥) → (byte ≡ 95 → ⊥) → Remains base after (byte ∷ rest) → ⊥
no_other base true byte rest not other h = elim h [ inl digits ↦ not (first_digit base byte rest digits).0 | inr is ↦ other is.0 ]
no_other base false byte rest not other h = not (first_digit base byte rest h).0

-- the text is digits exactly where what is left may be left
abbrev pub IsLeft : ℕ → List ℕ → Bool → ℕ → Type 0
IsLeft base text after i = IsDigits base text ↔ Remains base after (drop i text)

pub at_start : (base : ℕ) (text : List ℕ) → IsLeft base text false 0
at_start base text = (λ h. h, λ h. h)

left_at : (base : ℕ) (text : List ℕ) (after : Bool) (i byte : ℕ) → i < length text → byte ≡ get_or text i 0 → IsLeft base text after i → IsDigits base text ↔ Remains base after (byte ∷ drop (i + 1) text)
left_at base text after i byte within is left =
    let e : drop i text ≡ byte ∷ drop (i + 1) text = drop_more text i 0 within ∙ ap (λ b. b ∷ drop (i + 1) text) (sym is) in
    subst (λ rest. IsDigits base text ↔ Remains base after rest) e left

joined : {A B C : Type 0} → A ↔ B → B ↔ C → A ↔ C
joined f g = (λ a. g.0 (f.0 a), λ c. f.1 (g.1 c))

pub left_past_underscore : (base : ℕ) (text : List ℕ) (i : ℕ) → i < length text → 95 ≡ get_or text i 0 → IsLeft base text true i → IsLeft base text false (i + 1)
left_past_underscore base text i within is left = joined (left_at base text true i 95 within is left) (past_underscore base (drop (i + 1) text))

pub left_past_digit : (base : ℕ) (text : List ℕ) (after : Bool) (i byte : ℕ) → i < length text → byte ≡ get_or text i 0 → IsDigitOf base byte → IsLeft base text after i → IsLeft base text true (i + 1)
left_past_digit base text after i byte within is digit left = joined (left_at base text after i byte within is left) (past_digit base after byte (drop (i + 1) text) digit)

pub stops_at_underscore : (base : ℕ) (text : List ℕ) (i : ℕ) → i < length text → 95 ≡ get_or text i 0 → IsLeft base text false i → IsDigits base text → ⊥
stops_at_underscore base text i within is left h = no_other_underscore base (drop (i + 1) text) ((left_at base text false i 95 within is left).0 h)

pub stops_at_other : (base : ℕ) (text : List ℕ) (after : Bool) (i byte : ℕ) → i < length text → byte ≡ get_or text i 0 → (IsDigitOf base byte → ⊥) → (byte ≡ 95 → ⊥) → IsLeft base text after i → IsDigits base text → ⊥
stops_at_other base text after i byte within is not other left h = no_other base after byte (drop (i + 1) text) not other ((left_at base text after i byte within is left).0 h)

pub at_end : (base : ℕ) (text : List ℕ) (after : Bool) (i : ℕ) → length text ≤ i → IsLeft base text after i → IsDigits base text ↔ Remains base after []
at_end base text after i past left = subst (λ rest. IsDigits base text ↔ Remains base after rest) (drop_all i text past) left

either : (a b : ℕ) → (a ≤ b) ⊎ (b ≤ a)
either a b = elim (cases_order a b) [
  | inl same ↦ inl (omega arith)
  | inr others ↦ elim others [ inl less ↦ inl (omega arith) | inr more ↦ inr (omega arith) ]
]

-- a value that was cut at a limit is cut there with one digit more
cut : (base v limit d : ℕ) → 1 ≤ base → limit ≤ v → min (base * v + d) limit ≡ limit
cut base v limit d some past =
    let grows : base * limit ≤ base * v = mul-le-mul_left base past in
    let more : limit ≤ limit * base = le-mul_of_pos_right limit some in
    min-eq_right (omega arith)

mul_min : (base v limit d : ℕ) → 1 ≤ base → min (base * min v limit + d) limit ≡ min (base * v + d) limit
mul_min base v limit d some =
    elim (either v limit) [
      | inl below ↦ ap (λ k. min (base * k + d) limit) (min-eq_left below)
      | inr past ↦ ap (λ k. min (base * k + d) limit) (min-eq_right past) ∙ (cut base limit limit d some (omega arith) ∙ sym (cut base v limit d some past))
    ]

-- the value with one more byte
pub value_past_underscore : (base : ℕ) (text : List ℕ) (i : ℕ) → i < length text → 95 ≡ get_or text i 0 → value_of base (take (i + 1) text) ≡ value_of base (take i text)
value_past_underscore base text i within is =
    fold_more (next_value base) 0 text i 0 within ∙ ap (next_value base (value_of base (take i text))) (sym is)

at_digit : (base v byte : ℕ) → (byte ≡ 95 → ⊥) → next_value base v byte ≡ base * v + digit_value byte
at_digit base v byte other = grind (arith, nat_tests)

pub value_past_digit : (base : ℕ) (text : List ℕ) (i byte v limit : ℕ) → 1 ≤ base → i < length text → byte ≡ get_or text i 0 → IsDigitOf base byte → v ≡ min (value_of base (take i text)) limit → min (base * v + digit_value byte) limit ≡ min (value_of base (take (i + 1) text)) limit
value_past_digit base text i byte v limit some within is digit so_far =
    let all = value_of base (take i text) in
    let more : value_of base (take (i + 1) text) ≡ base * all + digit_value byte =
    fold_more (next_value base) 0 text i 0 within ∙ (ap (next_value base all) (sym is) ∙ at_digit base all byte (not_underscore base byte digit)) in
    ap (λ k. min (base * k + digit_value byte) limit) so_far ∙ (mul_min base all limit (digit_value byte) some ∙ ap (λ k. min k limit) (sym more))
