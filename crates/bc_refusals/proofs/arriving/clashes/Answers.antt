use Rattle.std.proofs.Common.{◌∙◌, ap, sym}
use Rattle.std.proofs.lemmas.Bool.{OnTrue_at}
use Rattle.bc_flow.specs.bc_shapes.Shape.{join}
use Rattle.bc_flow.specs.bc_shapes.Views.{at_of}
use Rattle.bc_flow.specs.Views.{edge_of_rust}
use Rattle.bc_refusals.proofs.arriving.clashes.Goals as goal

pub returns-in-None : goal.returns-in-None
returns-in-None c code k = record {
  there = at_of c.read_there.new.x;
  came_there = sym c.is_set.ensures ∙ c.if-not-is_set.false;
  is = OnTrue_at c.if-not-branch.false (c.in_ok-read_there.ensures code k);
  apart = ap (λ z. join z.slots (edge_of_rust c.args.edge).at.slots) (sym c.open_shape.ensures) ∙ c.in-None.ensures.none;
}
