use Rattle.std.proofs.Common.{◌∙◌, sym, map}
use Rattle.std.proofs.lemmas.Bool.{OnTrue_from}
use Rattle.bc_flow.specs.bc_shapes.Views.{at_of}
use Rattle.bc_flow.specs.Code.{code_of}
use Rattle.bc_flow.specs.Views.{action_of, edge_of_rust}
use Rattle.bc_flow.proofs.Judging.{holds_is}
use Rattle.bc_refusals.specs.Stages.{Kept}
use Rattle.bc_refusals.proofs.walk.keeps_own.Goals as goal

pub returns : goal.returns
returns c =
    let code = code_of c.args.code.now in
    let i = action_of c.args.action.now in
    let x = at_of c.args.x.now in
    OnTrue_from c.stays.result (Kept code i c.args.p x) (λ t. record {
      handlers = sym (c.holds.ensures ∙ holds_is code i c.args.p x (map edge_of_rust c.args.edges.now) c.requires.along) ∙ c.if-not-holds.false;
      height = sym c.finds.ensures ∙ c.if-not-finds.false;
      state = sym c.room.ensures ∙ c.if-not-room.false;
      falls = sym c.stays.ensures ∙ t;
    })
