-- A decimal number is text.
use Rattle.std.proofs.Common.{◌≡◌, ◌≢◌, ℕ, ℤ, zero, suc, ◌<◌, Bool, true, false, cond, eqb, List, [], ◌∷◌, drop, Result, Ok, Err, is_ok, MatchResult, refl, arith, lit<}
use Rattle.std.proofs.lemmas.Bool.Decides.{nat_tests, Decides-eqb}
use Rattle.std.proofs.lemmas.Fmt.{IsAscii-from_digits}
use Rattle.std.proofs.lemmas.Str.{IsUtf8-from_ascii}
use Rattle.std.specs.Str.{IsAscii, IsUtf8}
use Rattle.std.specs.Str.Parse.{IsNumeral}
use Rattle.mpy_io.specs.Decimal.{IsDecimal}

ascii_more : (c : ℕ) (cs : List ℕ) → c < 128 → IsAscii cs → IsAscii (c ∷ cs)
ascii_more c cs small others zero = small
ascii_more c cs small others (suc i) = others i

numeral_ascii : (c : ℕ) (cs : List ℕ) (minus plus : Bool) → eqb c 45 ≡ minus → eqb c 43 ≡ plus → c ≢ 43 → IsNumeral 10 (cond minus cs (drop (cond plus 1 0) (c ∷ cs))) → IsAscii (c ∷ cs)
numeral_ascii c cs true plus is_minus is_plus apart digits =
    ascii_more c cs (grind (arith, nat_tests)) (IsAscii-from_digits cs digits.1)
numeral_ascii c cs false true is_minus is_plus apart digits = absurd (apart ((Decides-eqb c 43).0 is_plus))
numeral_ascii c cs false false is_minus is_plus apart digits = IsAscii-from_digits (c ∷ cs) digits.1

decimal_ascii : (text : List ℕ) (n : ℤ) → IsDecimal text n → IsAscii text
decimal_ascii [] n decimal = λ i. lit< tt
decimal_ascii (c ∷ cs) n decimal = numeral_ascii c cs (eqb c 45) (eqb c 43) refl refl decimal.unsigned decimal.digits

pub no_decimal : {A : Type 0} (text : List ℕ) (n : ℤ) → (IsUtf8 text → ⊥) → IsDecimal text n → A
no_decimal text n no_text decimal = absurd (no_text (IsUtf8-from_ascii text (decimal_ascii text n decimal)))

-- what a test says where its answer is passed on as a fault
pub where_failed : {A E F U : Type 0} (r : Result A E) (passed : Result A F) (e : F) (P : A → Type 0) (Q : E → Type 0) → is_ok passed ≡ is_ok r → passed ≡ Err e → MatchResult r P (λ x. (U → ⊥) × Q x) → U → ⊥
where_failed (Ok a) passed e P Q same failed m = cc
where_failed (Err x) passed e P Q same failed m = m.0
