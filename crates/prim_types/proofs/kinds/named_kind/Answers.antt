use Rattle.prim_types.proofs.TypeTests.{tuple_kind}
use Rattle.prim_types.proofs.kinds.named_kind.Goals as goal

pub returns-in-Fixed : goal.returns-in-Fixed
returns-in-Fixed c = λ texts tuples. tuple_kind texts tuples c.args.v c.in-Fixed.field-0 c.in-Fixed.is
