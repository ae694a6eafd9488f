use Rattle.prim_faults.proofs.TypeNames.{fixed_named}
use Rattle.prim_faults.proofs.types.type_of.Goals as goal

pub returns-in-Fixed : goal.returns-in-Fixed
returns-in-Fixed c = λ texts tuples. fixed_named texts tuples c.args.arena.now c.args.v _ c.in-Fixed.is
