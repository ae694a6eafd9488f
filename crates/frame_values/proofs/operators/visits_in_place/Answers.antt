use Rattle.prim_names.specs.prim_walks.Plain.{plain, plain_heap}
use Rattle.frame_values.proofs.Operating.{other_visits}
use Rattle.frame_values.proofs.operators.visits_in_place.Goals as goal

pub returns-in_default : goal.returns-in_default
returns-in_default g c =
    let texts = g.C.Constants.text_of c.args.consts.now in
    let tuples = g.C.Constants.items_of c.args.consts.now in
    other_visits (plain_heap texts tuples c.args.arena.now) c.args.op (plain texts tuples c.args.left) (plain texts tuples c.args.right) c.args.most c.in_default.not-Add
