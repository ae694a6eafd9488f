use Rattle.std.proofs.Common.{◌∙◌, arith, sym}
use Rattle.bc_refusals.proofs.Steps.{come_end}
use Rattle.bc_refusals.proofs.arriving.note_all.Goals as goal

pub returns-clause-come : goal.returns-clause-come
returns-clause-come c = sym (c.loop-edge.invariant.come ∙ come_end c.loop-edge.came.items c.args.edges.now c.loop-edge.edge-index (omega (arith, c.loop-edge-test.false)))
