use Rattle.prim_raising.proofs.FaultTexts.{fault_ascii}
use Rattle.prim_raising.proofs.texts.ascii_law.Goals as goal

pub returns : goal.returns
returns g c =
    fault_ascii (g.C.Constants.text_of c.args.consts.now) (g.C.Constants.items_of c.args.consts.now) c.args.arena.now c.args.fault c.name_law.ensures c.count_law.ensures
