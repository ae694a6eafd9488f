use Rattle.std.proofs.Common.{ap, ◌∙◌, ◌+◌, ◌*◌, arith, inl, inr}
use Rattle.std.specs.Prelude.{min}
use Rattle.std.proofs.lemmas.Bool.Decides.{nat_tests}
use Rattle.mpy_reader.specs.declared.object.TheConstants.{PAST}
use Rattle.mpy_reader.proofs.Numerals.{more_digits, no_digit, all_digits}
use Rattle.mpy_reader.proofs.object.numeral.Goals as goal
use Rattle.mpy_reader.proofs.object.numeral.Goals.{then-digit-lt48-via-then-digit-lt48, then-digit-lt48-via-else-digit-lt48+then-digit-gt57}

pub returns-then-digit-lt48 : goal.returns-then-digit-lt48
returns-then-digit-lt48 c =
    elim c.then-digit-lt48.branch [
      | then-digit-lt48-via-then-digit-lt48 w ↦ no_digit _ _ c.loop-digit-test.true (inl w.if-digit-lt48.true)
      | then-digit-lt48-via-else-digit-lt48+then-digit-gt57 w ↦ no_digit _ _ c.loop-digit-test.true (inr w.if-digit-gt57.true)
    ]

pub loop-digit-preserved : goal.loop-digit-preserved
loop-digit-preserved c =
    more_digits _ _ c.loop-digit.n _ PAST c.loop-digit-test.true c.if-digit-lt48.false c.if-digit-gt57.false c.loop-digit.invariant.0 c.loop-digit.invariant.1
    (c.min-n.ensures ∙ ap (λ z. min (10 * c.loop-digit.n + z) PAST) c.from.ensures)

pub returns : goal.returns
returns c = all_digits _ c.loop-digit.digit-index _ _ c.loop-digit-test.false (grind (arith, nat_tests)) c.loop-digit.invariant.0 c.loop-digit.invariant.1
