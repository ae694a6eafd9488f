use Rattle.std.proofs.Common.{◌∙◌, ◌++◌, ap, sym, arith, append-nil, map}
use Rattle.bc_shapes.specs.Views.{at_of}
use Rattle.bc_flow.specs.Edges.{edge_of}
use Rattle.bc_flow.specs.Views.{edge_of_rust}
use Rattle.bc_flow.proofs.Loops.{run_edges_more, runs_end}
use Rattle.bc_flow.proofs.edges.push_runs.Goals as goal

pub loop-i-preserved : goal.loop-i-preserved
loop-i-preserved c = (
  λ a. run_edges_more (edge_of a (at_of c.args.x.now)) (map edge_of_rust c.loop-i.edges.items) _ _ _ c.args.entries.now c.below.result.now _ (omega (arith, c.loop-i-test.true)) (omega (arith, c.if-i-count.false)) c.below.ensures (c.in_ok-push_if.ensures ∙ ap (λ z. map edge_of_rust c.loop-i.edges.items ++ z) (c.run_edge.ensures a))
      ∙ c.loop-i.invariant.0 a,
  omega (arith, c.if-i-count.false),
)

pub returns : goal.returns
returns c a = sym (append-nil _) ∙ ap (λ z. map edge_of_rust c.loop-i.edges.items ++ map (edge_of a (at_of c.args.x.now)) z) (sym (runs_end _ c.args.entries.now _ c.loop-i-test.false)) ∙ c.loop-i.invariant.0 a
