use Rattle.std.proofs.Common.{subst}
use Rattle.std.proofs.lemmas.Bool.{OnTrue_from}
use Rattle.bc_flow.specs.bc_shapes.Shape.{Under}
use Rattle.bc_flow.specs.bc_shapes.Views.{at_of}
use Rattle.bc_refusals.specs.Stages.{Opens, opened}
use Rattle.bc_refusals.proofs.arriving.opens_below.Goals as goal

pub returns : goal.returns
returns c =
    OnTrue_from c.under.result (Opens (at_of c.args.meeting.now.came) (at_of c.args.meeting.now.there))
    (λ t. subst (λ z. Under z (opened (at_of c.args.meeting.now.came))) c.open_shape-2.ensures (subst (Under (at_of c.open_shape-2.new.x)) c.open_shape.ensures (c.under.ensures.0 t)))
