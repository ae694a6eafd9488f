use Rattle.std.proofs.Common.{arith}
use Rattle.std.proofs.lemmas.Bool.{OnTrue_at}
use Rattle.bc_certificates.specs.Checking.{rows_of}
use Rattle.bc_certificates.specs.Rows.{carried}
use Rattle.bc_refusals.proofs.Steps.{lead_end, lead_step}
use Rattle.bc_refusals.proofs.arriving.all_lead.Goals as goal

pub loop-edge-preserved : goal.loop-edge-preserved
loop-edge-preserved c code k rest =
    c.loop-edge.invariant code k (lead_step (carried code (rows_of c.args.table.now)) c.args.came.now c.args.edges.now c.loop-edge.edge-index _ c.loop-edge-test.true
    (OnTrue_at c.if-not-branch.false (c.in_ok-leads.ensures code k)) rest)

pub returns : goal.returns
returns c code k = c.loop-edge.invariant code k (lead_end (carried code (rows_of c.args.table.now)) c.args.came.now c.args.edges.now c.loop-edge.edge-index (omega (arith, c.loop-edge-test.false)))
