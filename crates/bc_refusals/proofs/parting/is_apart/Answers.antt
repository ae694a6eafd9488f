use Rattle.std.proofs.lemmas.Bool.{OnTrue_at}
use Rattle.bc_flow.specs.Views.{edge_of_rust}
use Rattle.bc_refusals.proofs.Steps.{apart_at}
use Rattle.bc_refusals.proofs.parting.is_apart.Goals as goal

pub returns-then-branch : goal.returns-then-branch
returns-then-branch c =
    apart_at (edge_of_rust c.args.edge) c.args.others.now c.loop-other.other-index _ c.loop-other-test.true (OnTrue_at c.if-branch.true c.in_ok-are_apart.ensures)
