use Rattle.prim_comparisons.proofs.NumbersWithin.{fixed_no_number}
use Rattle.prim_comparisons.proofs.ranges.has_number.Goals as goal

pub returns-in-Fixed : goal.returns-in-Fixed
returns-in-Fixed c = λ texts tuples. fixed_no_number texts tuples c.args._arena.now c.args.v _ c.args.start c.args.stop c.args.step c.in-Fixed.is
