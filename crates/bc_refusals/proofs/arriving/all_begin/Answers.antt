use Rattle.std.proofs.Common.{◌∙◌, arith, sym, inl, inr}
use Rattle.std.proofs.lemmas.Bool.{OnTrue_at}
use Rattle.bc_certificates.specs.Checking.{rows_of}
use Rattle.bc_certificates.specs.Rows.{carried}
use Rattle.bc_refusals.proofs.Steps.{begin_end, begin_step}
use Rattle.bc_refusals.proofs.arriving.all_begin.Goals.{else-not-is_set-via-then-not-is_set+in_ok-any_begins+else-not-branch, else-not-is_set-via-else-not-is_set}
use Rattle.bc_refusals.proofs.arriving.all_begin.Goals as goal

pub loop-edge-preserved : goal.loop-edge-preserved
loop-edge-preserved c code k rest =
    c.loop-edge.invariant code k (begin_step (carried code (rows_of c.args.table.now)) c.args.came.now _ c.args.edges.now c.loop-edge.edge-index _ c.loop-edge-test.true
    (elim c.else-not-is_set.branch [
      | else-not-is_set-via-then-not-is_set+in_ok-any_begins+else-not-branch w ↦ inr (OnTrue_at w.if-not-branch.false (w.in_ok-any_begins.ensures code k))
      | else-not-is_set-via-else-not-is_set w ↦ inl (sym c.is_set.ensures ∙ w.if-not-is_set.false)
    ]) rest)

pub returns : goal.returns
returns c code k = c.loop-edge.invariant code k (begin_end (carried code (rows_of c.args.table.now)) c.args.came.now _ c.args.edges.now c.loop-edge.edge-index (omega (arith, c.loop-edge-test.false)))
