use Rattle.std.proofs.Common.{◌∙◌, sym}
use Rattle.bc_refusals.proofs.Steps.{next_is, passed_more}
use Rattle.bc_refusals.proofs.order.next_waiting.Goals as goal

pub returns-then-waits : goal.returns-then-waits
returns-then-waits c = next_is c.args.came.now c.args.gone.now c.loop-p.p c.loop-p.invariant (sym c.waits.ensures ∙ c.if-waits.true)

pub loop-p-preserved : goal.loop-p-preserved
loop-p-preserved c = passed_more c.args.came.now c.args.gone.now c.loop-p.p c.loop-p.invariant (sym c.waits.ensures ∙ c.if-waits.false)
