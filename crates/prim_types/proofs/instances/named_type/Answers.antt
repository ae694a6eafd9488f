use Rattle.prim_types.proofs.TypeTests.{tuple_type}
use Rattle.prim_types.proofs.instances.named_type.Goals as goal

pub returns-in-Fixed : goal.returns-in-Fixed
returns-in-Fixed c = λ texts tuples. tuple_type texts tuples c.args.v c.in-Fixed.field-0 c.in-Fixed.is
