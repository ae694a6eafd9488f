use Rattle.std.proofs.Common.{ap, arith, length}
use Rattle.bc_verify.proofs.Trees.{count_none, count_all}
use Rattle.bc_verify.proofs.tree.+count.Goals as goal

pub returns-then-levels-eq0 : goal.returns-then-levels-eq0
returns-then-levels-eq0 t c = count_none _ c.args.levels c.args.code.now c.if-levels-eq0.true

pub returns : goal.returns
returns t c =
    count_all _ c.args.levels c.loop-child.child-index c.loop-child.codes c.args.code.now (omega arith)
    (omega (arith, c.loop-child-test.false, ap length c.as_slice-child-items.ensures)) c.loop-child.invariant
