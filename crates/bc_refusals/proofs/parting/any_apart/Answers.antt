use Rattle.std.proofs.lemmas.Bool.{OnTrue_at}
use Rattle.bc_refusals.proofs.Steps.{parts_at}
use Rattle.bc_refusals.proofs.parting.any_apart.Goals as goal

pub returns-then-branch : goal.returns-then-branch
returns-then-branch c =
    parts_at c.args.edges.now c.loop-k.k _ c.below.result.now c.loop-k-test.true c.below.ensures (OnTrue_at c.if-branch.true c.in_ok-is_apart.ensures)
