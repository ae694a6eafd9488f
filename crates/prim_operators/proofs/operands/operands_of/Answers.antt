use Rattle.prim_operators.proofs.Pairings.{unfit_left}
use Rattle.prim_operators.proofs.operands.operands_of.Goals as goal

pub returns-in-Other : goal.returns-in-Other
returns-in-Other c = λ texts tuples. unfit_left _ _ (c.in-Other.ensures texts tuples)
