use Rattle.std.proofs.Common.{arith}
use Rattle.prim_types.proofs.NumeralSteps.{cut_more}
use Rattle.prim_types.proofs.numerals.with_digit.Goals as goal

pub returns-clause-number : goal.returns-clause-number
returns-clause-number c = λ n e. let more = cut_more n c.args.number c.args.digit e in omega (arith, more)
