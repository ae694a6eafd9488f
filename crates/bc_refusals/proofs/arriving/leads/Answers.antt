use Rattle.std.proofs.Common.{arith, subst}
use Rattle.std.proofs.lemmas.Bool.{OnTrue_at}
use Rattle.bc_flow.specs.bc_shapes.Shape.{Under}
use Rattle.bc_flow.specs.bc_shapes.Views.{at_of}
use Rattle.bc_refusals.proofs.arriving.leads.Goals as goal

pub returns : goal.returns
returns c code k =
    record {
      inside = omega (arith, c.if-edge-came.false);
      leads = record {
        at = at_of c.read_there.new.x;
        is = OnTrue_at c.if-not-branch.false (c.in_ok-read_there.ensures code k);
        under = subst (λ z. Under z (at_of c.read_there.new.x)) c.in_ok-write.ensures (c.under.ensures.0 c.if-not-under.false);
      };
    }
