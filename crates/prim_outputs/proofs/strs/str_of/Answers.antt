use Rattle.prim_outputs.proofs.Named.{fixed_no_str}
use Rattle.prim_outputs.proofs.strs.str_of.Goals as goal

pub returns-in-Fixed-clause-shown : goal.returns-in-Fixed-clause-shown
returns-in-Fixed-clause-shown g c =
    fixed_no_str (g.C.Constants.text_of c.args.consts.now) (g.C.Constants.items_of c.args.consts.now) c.args.arena.now c.args.v _ c.in-Fixed.is
