use Rattle.std.proofs.Common.{arith}
use Rattle.frame_values.proofs.Operating.{in_place_is, plain_is, plain_none, beyond_all}
use Rattle.frame_values.proofs.operations.two_operands.Goals as goal

pub returns-in-Some : goal.returns-in-Some
returns-in-Some c = in_place_is c.args.number c.arithmetic.result c.in-Some.op (omega (arith, c.if-number-lt9.false)) c.arithmetic.ensures c.in-Some.is

pub returns-in-Some-arithmetic : goal.returns-in-Some-arithmetic
returns-in-Some-arithmetic c =
    plain_is c.args.number c.arithmetic-then-number-lt35.result c.in-Some-arithmetic.op (omega (arith, c.if-number-lt22.false)) c.arithmetic-then-number-lt35.ensures c.in-Some-arithmetic.is

pub returns-in-None-arithmetic : goal.returns-in-None-arithmetic
returns-in-None-arithmetic c =
    plain_none c.args.number c.arithmetic-then-number-lt35.result (omega (arith, c.if-number-lt22.false)) c.arithmetic-then-number-lt35.ensures c.in-None-arithmetic.is

pub returns-else-number-lt35 : goal.returns-else-number-lt35
returns-else-number-lt35 c = beyond_all c.args.number (omega (arith, c.if-number-lt35.false))
