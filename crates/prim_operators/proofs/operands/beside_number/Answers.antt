use Rattle.prim_operators.proofs.Pairings.{unfit_number}
use Rattle.prim_operators.proofs.operands.beside_number.Goals as goal

pub returns-in-Other : goal.returns-in-Other
returns-in-Other c = λ texts tuples. unfit_number _ _ c.args.n (c.requires.left texts tuples) (c.in-Other.ensures texts tuples)
