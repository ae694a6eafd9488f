use Rattle.std.proofs.Common.{subst}
use Rattle.std.proofs.lemmas.Bool.{OnTrue_at, OnTrue_from}
use Rattle.bc_flow.specs.bc_shapes.Views.{at_of}
use Rattle.bc_refusals.specs.Stages.{Opens}
use Rattle.bc_refusals.proofs.arriving.begins.Goals as goal

pub returns : goal.returns
returns c code k =
    OnTrue_from c.opens_below.result _ (λ t. (
      at_of c.read_there.new.x,
      OnTrue_at c.if-not-branch.false (c.in_ok-read_there.ensures code k),
      subst (λ z. Opens z (at_of c.read_there.new.x)) c.in_ok-write.ensures (OnTrue_at t c.opens_below.ensures),
    ))
