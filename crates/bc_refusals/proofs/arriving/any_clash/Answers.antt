use Rattle.std.proofs.lemmas.Bool.{OnTrue_at}
use Rattle.bc_certificates.specs.Checking.{rows_of}
use Rattle.bc_certificates.specs.Rows.{carried}
use Rattle.bc_refusals.proofs.Steps.{clash_at}
use Rattle.bc_refusals.proofs.arriving.any_clash.Goals as goal

pub returns-then-branch : goal.returns-then-branch
returns-then-branch c code k =
    clash_at (carried code (rows_of c.args.table.now)) c.args.came.now c.args.edges.now c.loop-edge.edge-index _ c.loop-edge-test.true (OnTrue_at c.if-branch.true (c.in_ok-clashes.ensures code k))
