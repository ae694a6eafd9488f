use Rattle.std.proofs.Common.{ℕ, ◌^◌, min, take, Option, sym, ap, ◌∙◌}
use Rattle.std.specs.Option.{option_map}
use Rattle.prim_types.proofs.NumeralSteps.{value, value_more, digits_more, no_digits}
use Rattle.prim_types.proofs.numerals.digits_number.Goals as goal

pub loop-digit-preserved : goal.loop-digit-preserved
loop-digit-preserved c =
    let digits = c.args.digits.now in
    let i = c.loop-digit.digit-index in
    let digit = sym c.is_ascii_digit.ensures.value ∙ c.if-not-is_ascii_digit.false in (
      digits_more digits i c.loop-digit-test.true c.loop-digit.invariant.0 digit,
      c.with_digit-number.ensures.number (value (take i digits)) c.loop-digit.invariant.1 ∙ ap (λ (n : ℕ). min n (2 ^ 31)) (sym (value_more digits i c.loop-digit-test.true)),
      c.with_digit-number.ensures.bound,
    )

pub returns-then-not-is_ascii_digit-clause-number : goal.returns-then-not-is_ascii_digit-clause-number
returns-then-not-is_ascii_digit-clause-number c =
    let digits = c.args.digits.now in
    let i = c.loop-digit.digit-index in
    sym (ap (λ (o : Option ℕ). option_map (λ n. min n (2 ^ 31)) o) (no_digits digits i c.loop-digit-test.true (sym c.is_ascii_digit.ensures.value ∙ c.if-not-is_ascii_digit.true)))
