-- A run has one answer.
use Rattle.std.proofs.Common.{◌≡◌, ℕ, ◌<◌, ◌≤◌, ◌↔◌, ◌⊎◌, inl, inr, min, List, ℤ, pos, Result, Ok, Err, Option, Some, None, IsSome, IfSome, IfOk, MatchOption, is_some, refl, sym, ap, ◌∙◌, subst, arith}
use Rattle.std.proofs.lemmas.Bool.{cases_order}
use Rattle.py_tokens.specs.declared.number.NumberFault.{NumberFault}
use Rattle.py_tokens.specs.declared.number.NumberFault.TheVariants.{BadToken, Float, Complex, TooBig}
use Rattle.py_tokens.specs.declared.digits.TheConstants.{TOO_BIG}
use Rattle.py_tokens.specs.Digits.{IsDigits, value_of}
use Rattle.py_tokens.specs.Number.{IsMark, HasPrefix, Spells, IsNumber, IsBadToken, IsFloat, IsComplex, IsTooBig, Says}

mark_base : (mark b c : ℕ) → IsMark mark b → IsMark mark c → b ≡ c
mark_base mark b c x y = grind arith

pub base_range : (mark base : ℕ) → IsMark mark base → (1 ≤ base) × (base ≤ 16)
base_range mark base x = (grind arith, grind arith)

one_prefix : (run d e : List ℕ) (b c : ℕ) → HasPrefix run b d → HasPrefix run c e → (b ≡ c) × (d ≡ e)
one_prefix run d e b c x y =
    let mark : x.0 ≡ y.0 = cc in
    let digits : d ≡ e = cc in
    (mark_base y.0 b c (subst (λ m. IsMark m b) mark x.1) y.1, digits)

pub one_value : (run : List ℕ) (m n : ℕ) → Spells run m → Spells run n → m ≡ n
one_value run m n (inl x) (inl y) =
    let same = one_prefix run x.1 y.1 x.0 y.0 x.2 y.2 in
    let base : x.0 ≡ y.0 = same.0 in
    let digits : x.1 ≡ y.1 = same.1 in
    x.3.value ∙ (ap (λ b. value_of b x.1) base ∙ (ap (value_of y.0) digits ∙ sym y.3.value))
one_value run m n (inl x) (inr y) = absurd (y.0.0 x.0 x.1 x.2)
one_value run m n (inr x) (inl y) = absurd (x.0.0 y.0 y.1 y.2)
one_value run m n (inr x) (inr y) = x.2.value ∙ sym y.2.value

spelled_bad : (run : List ℕ) (n : ℕ) → Spells run n → IsBadToken run → ⊥
spelled_bad run n (inl x) (inl y) =
    let same = one_prefix run x.1 y.1 x.0 y.0 x.2 y.2 in
    y.3 (subst (λ b. IsDigits b y.1) same.0 (subst (IsDigits x.0) same.1 x.3.digits))
spelled_bad run n (inl x) (inr y) = y.0.0 x.0 x.1 x.2
spelled_bad run n (inr x) (inl y) = x.0.0 y.0 y.1 y.2
spelled_bad run n (inr x) (inr y) = y.1 x.1

spelled_float : (run : List ℕ) (n : ℕ) → Spells run n → IsFloat run → ⊥
spelled_float run n (inl x) y = y.0 x.0 x.1 x.2
spelled_float run n (inr x) y = x.0.1 y.1

spelled_complex : (run : List ℕ) (n : ℕ) → Spells run n → IsComplex run → ⊥
spelled_complex run n (inl x) y = y.0 x.0 x.1 x.2
spelled_complex run n (inr x) y = x.0.2 y.2

bad_float : (run : List ℕ) → IsBadToken run → IsFloat run → ⊥
bad_float run (inl x) y = y.0 x.0 x.1 x.2
bad_float run (inr x) y = x.0.1 y.1

bad_complex : (run : List ℕ) → IsBadToken run → IsComplex run → ⊥
bad_complex run (inl x) y = y.0 x.0 x.1 x.2
bad_complex run (inr x) y = x.0.2 y.2

float_complex : (run : List ℕ) → IsFloat run → IsComplex run → ⊥
float_complex run x y = y.1 x.1

small_and_big : (run : List ℕ) (n : ℕ) → IsNumber run n → IsTooBig run → ⊥
small_and_big run n x y = let same = one_value run n y.0 x.0 y.1 in omega arith

pub one_answer : (run : List ℕ) (r s : Result ℤ NumberFault) → Says run r → Says run s → r ≡ s
one_answer run (Ok r) (Ok s) x y =
    let same : x.0 ≡ y.0 = one_value run x.0 y.0 x.2.0 y.2.0 in
    let first : r ≡ pos x.0 = x.1 in
    let second : s ≡ pos y.0 = y.1 in
    cc
one_answer run (Ok r) (Err BadToken) x y = absurd (spelled_bad run x.0 x.2.0 y)
one_answer run (Ok r) (Err Float) x y = absurd (spelled_float run x.0 x.2.0 y)
one_answer run (Ok r) (Err Complex) x y = absurd (spelled_complex run x.0 x.2.0 y)
one_answer run (Ok r) (Err TooBig) x y = absurd (small_and_big run x.0 x.2 y)
one_answer run (Err BadToken) (Ok s) x y = absurd (spelled_bad run y.0 y.2.0 x)
one_answer run (Err BadToken) (Err BadToken) x y = refl
one_answer run (Err BadToken) (Err Float) x y = absurd (bad_float run x y)
one_answer run (Err BadToken) (Err Complex) x y = absurd (bad_complex run x y)
one_answer run (Err BadToken) (Err TooBig) x y = absurd (spelled_bad run y.0 y.1 x)
one_answer run (Err Float) (Ok s) x y = absurd (spelled_float run y.0 y.2.0 x)
one_answer run (Err Float) (Err BadToken) x y = absurd (bad_float run y x)
one_answer run (Err Float) (Err Float) x y = refl
one_answer run (Err Float) (Err Complex) x y = absurd (float_complex run x y)
one_answer run (Err Float) (Err TooBig) x y = absurd (spelled_float run y.0 y.1 x)
one_answer run (Err Complex) (Ok s) x y = absurd (spelled_complex run y.0 y.2.0 x)
one_answer run (Err Complex) (Err BadToken) x y = absurd (bad_complex run y x)
one_answer run (Err Complex) (Err Float) x y = absurd (float_complex run y x)
one_answer run (Err Complex) (Err Complex) x y = refl
one_answer run (Err Complex) (Err TooBig) x y = absurd (spelled_complex run y.0 y.1 x)
one_answer run (Err TooBig) (Ok s) x y = absurd (small_and_big run y.0 y.2 x)
one_answer run (Err TooBig) (Err BadToken) x y = absurd (spelled_bad run x.0 x.1 y)
one_answer run (Err TooBig) (Err Float) x y = absurd (spelled_float run x.0 x.1 y)
one_answer run (Err TooBig) (Err Complex) x y = absurd (spelled_complex run x.0 x.1 y)
one_answer run (Err TooBig) (Err TooBig) x y = refl

-- a number that was read is the answer
pub number_says : (run : List ℕ) (r : Result ℤ NumberFault) → Says run r → IfOk r (λ number. (n : ℕ) × (number ≡ pos n) × IsNumber run n)
number_says run (Ok number) says = says
number_says run (Err fault) says = tt

pub says_number : (run : List ℕ) (r : Result ℤ NumberFault) → Says run r → (n : ℕ) → IsNumber run n → r ≡ Ok (pos n)
says_number run r says n is = one_answer run r (Ok (pos n)) says (n, refl, is)

-- a fault is the answer exactly where it is the run's
pub fault_says : (run : List ℕ) (r : Result ℤ NumberFault) (fault : NumberFault) → Says run r → (r ≡ Err fault) ↔ Says run (Err fault)
fault_says run r fault says = (λ e. subst (Says run) e says, λ is. one_answer run r (Err fault) says is)

below_or_past : (n limit : ℕ) → (n < limit) ⊎ (limit ≤ n)
below_or_past n limit = elim (cases_order n limit) [
  | inl same ↦ inr (omega arith)
  | inr others ↦ elim others [ inl below ↦ inl below | inr past ↦ inr (omega arith) ]
]

-- what `small` makes of a value that was cut at the limit
pub small_says : (run : List ℕ) (value : Option ℕ) (all : ℕ) (r : Result ℤ NumberFault) → (value ≡ None → IsBadToken run) → (IsSome value → Spells run all) → IfSome value (λ n. n ≡ min all TOO_BIG) → MatchOption value (r ≡ Err BadToken) (λ n. (n < TOO_BIG → r ≡ Ok (pos n)) × (TOO_BIG ≤ n → r ≡ Err TooBig)) → Says run r
small_says run None all r bad spells cut is = subst (Says run) (sym is) (bad refl)
small_says run (Some n) all r bad spells cut is =
    elim (below_or_past n TOO_BIG) [
      | inl below ↦ (
          let same : all ≡ n = omega arith in
          subst (Says run) (sym (is.0 below)) (n, refl, (subst (Spells run) same (spells refl), omega arith)))
      | inr past ↦ subst (Says run) (sym (is.1 past)) (all, spells refl, omega arith)
    ]

-- a value is missing where it cannot be
pub missing : (P : Type 0) (value : Option ℕ) → value ≡ None → (P → IsSome value) → P → ⊥
missing P value none some p = let e = some p in let f = ap is_some none in cc
