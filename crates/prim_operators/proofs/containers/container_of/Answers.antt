use Rattle.prim_operators.proofs.IndexUses.{fixed_sequence}
use Rattle.prim_operators.proofs.containers.container_of.Goals as goal

pub returns-in-Fixed : goal.returns-in-Fixed
returns-in-Fixed c = λ texts tuples. fixed_sequence texts tuples c.args._arena.now c.args.v _ c.in-Fixed.is
