use Rattle.std.proofs.Common.{rules}
use Rattle.std.proofs.lemmas.Bool.{OnTrue_at}
use Rattle.bc_certificates.specs.Checking.{rows_of}
use Rattle.bc_certificates.specs.Rows.{carried}
use Rattle.bc_refusals.proofs.Steps.{begins_at}
use Rattle.bc_refusals.proofs.arriving.any_begins.Goals as goal

pub returns-then-branch : goal.returns-then-branch
returns-then-branch c code k =
    begins_at (carried code (rows_of c.args.table.now)) c.args.p c.args.edges.now c.loop-edge.edge-index _ c.loop-edge-test.true (search rules) (OnTrue_at c.if-branch.true (c.in_ok-begins.ensures code k))
