use Rattle.std.proofs.Common.{◌∙◌, arith}
use Rattle.bc_flow.proofs.Loops.{lowest_more}
use Rattle.bc_flow.proofs.rules.lowest.Goals as goal

pub loop-i-preserved : goal.loop-i-preserved
loop-i-preserved c = (c.loop-i.invariant.0 ∙ lowest_more _ _ _ _ c.args.entries.now _ (omega (arith, c.loop-i-test.true)) (omega (arith, c.if-i-count.false)) c.lower-least.ensures, omega (arith, c.if-i-count.false))
