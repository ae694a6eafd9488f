use Rattle.frame_values.proofs.Iterating.{tested}
use Rattle.frame_values.proofs.iterators.top_truth.Goals as goal

pub returns : goal.returns
returns g c layout w =
    let texts = g.C.Constants.text_of c.args.consts.now in
    let tuples = g.C.Constants.items_of c.args.consts.now in
    tested texts tuples layout w c.args.arena.now c.value_at-v.result c.truth.result c.truth.ensures c.args.frames.now.calls c.value_at-v.ensures.there
