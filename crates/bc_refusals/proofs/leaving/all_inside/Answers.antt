use Rattle.std.proofs.Common.{arith}
use Rattle.bc_refusals.proofs.Runs.{inside_end, inside_step}
use Rattle.bc_refusals.proofs.leaving.all_inside.Goals as goal

pub loop-edge-preserved : goal.loop-edge-preserved
loop-edge-preserved c rest =
    c.loop-edge.invariant (inside_step c.args.size c.args.edges.now c.loop-edge.edge-index _ c.loop-edge-test.true c.if-edge-size.false rest)

pub returns : goal.returns
returns c = c.loop-edge.invariant (inside_end c.args.size c.args.edges.now c.loop-edge.edge-index (omega (arith, c.loop-edge-test.false)))
