use Rattle.std.proofs.Common.{arith}
use Rattle.mpy_dump.proofs.Numbers.{one_digit, two_digits, three_digits, four_digits, five_digits}
use Rattle.mpy_dump.proofs.pen.digits_of.Goals as goal

pub returns-then-n-ge10000-clause-is : goal.returns-then-n-ge10000-clause-is
returns-then-n-ge10000-clause-is c = five_digits c.args.n (omega (arith, c.if-n-ge10000.true)) c.requires

pub returns-then-n-ge1000-clause-is : goal.returns-then-n-ge1000-clause-is
returns-then-n-ge1000-clause-is c = four_digits c.args.n (omega (arith, c.if-n-ge1000.true)) (omega (arith, c.if-n-ge10000.false))

pub returns-then-n-ge100-clause-is : goal.returns-then-n-ge100-clause-is
returns-then-n-ge100-clause-is c = three_digits c.args.n (omega (arith, c.if-n-ge100.true)) (omega (arith, c.if-n-ge1000.false))

pub returns-then-n-ge10-clause-is : goal.returns-then-n-ge10-clause-is
returns-then-n-ge10-clause-is c = two_digits c.args.n (omega (arith, c.if-n-ge10.true)) (omega (arith, c.if-n-ge100.false))

pub returns-else-n-ge10-clause-is : goal.returns-else-n-ge10-clause-is
returns-else-n-ge10-clause-is c = one_digit c.args.n (omega (arith, c.if-n-ge10.false))
