use Rattle.prim_operators.proofs.Pairings.{unfit_shape}
use Rattle.prim_operators.proofs.operands.beside_shape.Goals as goal

pub returns-in-Other : goal.returns-in-Other
returns-in-Other c = λ texts tuples. unfit_shape _ _ c.args.shape (c.requires.left.1 texts tuples) (c.in-Other.ensures texts tuples)
