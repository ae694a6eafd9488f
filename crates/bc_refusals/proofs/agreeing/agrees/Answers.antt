use Rattle.std.proofs.Common.{◌∙◌, ap, arith, sym}
use Rattle.std.proofs.lemmas.Bool.{OnTrue_at}
use Rattle.bc_flow.specs.bc_shapes.Shape.{same_entries}
use Rattle.bc_flow.specs.bc_shapes.Views.{at_of}
use Rattle.bc_flow.specs.Views.{edge_of_rust}
use Rattle.bc_certificates.specs.Checking.{rows_of}
use Rattle.bc_certificates.specs.Rows.{carried}
use Rattle.bc_refusals.proofs.Faults.{agrees_past, agrees_set, agrees_unset}
use Rattle.bc_refusals.proofs.agreeing.agrees.Goals as goal

pub returns-then-edge-came : goal.returns-then-edge-came
returns-then-edge-came c code k t long m =
    agrees_past t c.args.edge.to _ (omega (arith, long, c.if-edge-came.true))

pub returns-then-not-is_set : goal.returns-then-not-is_set
returns-then-not-is_set c code k t long m =
    agrees_unset (carried code (rows_of c.args.table.now)) c.args.came.now t m c.args.edge.to _ (omega (arith, long, c.if-edge-came.false)) (sym c.is_set.ensures ∙ c.if-not-is_set.true)

pub returns : goal.returns
returns c code k t long m =
    agrees_set (carried code (rows_of c.args.table.now)) c.args.came.now t m c.args.edge.to _ (at_of c.read_there.new.x) (sym c.is_set.ensures ∙ c.if-not-is_set.false)
    (OnTrue_at c.if-not-branch.false (c.in_ok-read_there.ensures code k))
    ∙ sym (c.same_entries.ensures ∙ ap (λ es. same_entries es (edge_of_rust c.args.edge).at.entries) c.deref.ensures.value)
