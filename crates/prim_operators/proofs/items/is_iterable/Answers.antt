use Rattle.prim_operators.proofs.ItemsShown.{fixed_iterates}
use Rattle.prim_operators.proofs.items.is_iterable.Goals as goal

pub returns-in-Fixed : goal.returns-in-Fixed
returns-in-Fixed c = λ texts tuples. fixed_iterates texts tuples c.args._arena.now c.args.v _ c.in-Fixed.is
