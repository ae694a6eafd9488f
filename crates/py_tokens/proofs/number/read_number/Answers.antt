use Rattle.std.proofs.Common.{inl, inr, refl}
use Rattle.py_tokens.specs.Digits.{IsDigits, value_of}
use Rattle.py_tokens.specs.Number.{HasPrefix, HasNoPrefix, IsPlain, IsDecimal}
use Rattle.py_tokens.proofs.Numbers.{small_says, missing}
use Rattle.py_tokens.proofs.number.read_number.Goals as goal

pub returns-in-Some : goal.returns-in-Some
returns-in-Some c =
    let run = c.args.run.now in
    let base = c.in-Some.base in
    let digits = c.in-Some.digits.now in
    let prefix : HasPrefix run base digits = c.in-Some.ensures in
    let value = c.value_of_digits in
    small_says run value.result (value_of base digits) c.small.result
    (λ none. inl (base, digits, prefix, missing (IsDigits base digits) value.result none value.ensures.digits.1))
    (λ some. inl (base, digits, prefix, record { digits = value.ensures.digits.0 some; value = refl }))
    value.ensures.value c.small.ensures

pub returns-else-looks_complex : goal.returns-else-looks_complex
returns-else-looks_complex c =
    let run = c.args.run.now in
    let no_prefix : HasNoPrefix run = c.in_default.ensures in
    let plain : IsPlain run = (no_prefix, (λ is. let e = c.looks_float.ensures.1 is in let f = c.if-looks_float.false in absurd cc), (λ is. let e = c.looks_complex.ensures.1 is in let f = c.if-looks_complex.false in absurd cc)) in
    let value = c.decimal in
    small_says run value.result (value_of 10 run) c.small-else-looks_complex.result
    (λ none. inr (plain, missing (IsDecimal run) value.result none value.ensures.decimal.1))
    (λ some. let decimal = value.ensures.decimal.0 some in inr (plain, decimal, record { digits = decimal.0; value = refl }))
    value.ensures.value c.small-else-looks_complex.ensures
