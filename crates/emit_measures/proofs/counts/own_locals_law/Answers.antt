use Rattle.emit_measures.proofs.Locals.{all_own}
use Rattle.emit_measures.proofs.counts.own_locals_law.Goals as goal

pub returns : goal.returns
returns c tree formed faultless source base body locals =
    all_own tree source base body (c.slots_law.ensures.locals tree formed) (c.slots_law.ensures.globals tree formed) locals (c.params_law.ensures.first tree formed faultless source base body locals)
