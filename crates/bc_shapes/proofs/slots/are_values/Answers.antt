use Rattle.std.proofs.Common.{◌∙◌, sym, rules}
use Rattle.bc_shapes.proofs.Loops.{values_more, values_end}
use Rattle.bc_shapes.proofs.slots.are_values.Goals as goal

pub loop-kind-preserved : goal.loop-kind-preserved
loop-kind-preserved c = c.loop-kind.invariant ∙ values_more c.args.slots.now c.loop-kind.kind-index _ c.loop-kind.fine c.both-fine.result c.stands.result c.loop-kind-test.true (search rules) c.stands.ensures c.both-fine.ensures

pub returns : goal.returns
returns c = values_end c.args.slots.now c.loop-kind.kind-index c.loop-kind.fine c.loop-kind-test.false ∙ sym c.loop-kind.invariant
