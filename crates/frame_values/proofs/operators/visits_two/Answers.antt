use Rattle.prim_names.specs.prim_walks.Plain.{plain, plain_heap}
use Rattle.frame_values.proofs.Operating.{plain_visits}
use Rattle.frame_values.proofs.operators.visits_two.Goals as goal

pub returns-in-Arithmetic : goal.returns-in-Arithmetic
returns-in-Arithmetic g c =
    let texts = g.C.Constants.text_of c.args.consts.now in
    let tuples = g.C.Constants.items_of c.args.consts.now in
    plain_visits c.args.op c.in-Arithmetic.field-0 c.in-Arithmetic.is (plain_heap texts tuples c.args.arena.now) (plain texts tuples c.args.left) (plain texts tuples c.args.right) c.args.most
