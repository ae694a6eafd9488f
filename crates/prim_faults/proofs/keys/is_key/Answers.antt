use Rattle.prim_faults.proofs.Keyless.{fixed_no_key}
use Rattle.prim_faults.proofs.keys.is_key.Goals as goal

pub returns-in-Fixed-clause-shown : goal.returns-in-Fixed-clause-shown
returns-in-Fixed-clause-shown c = λ texts tuples. fixed_no_key texts tuples c.args._arena.now c.args.v _ c.in-Fixed.is
