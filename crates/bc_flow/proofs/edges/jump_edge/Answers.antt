use Rattle.std.proofs.Common.{ap, refl, ◌∙◌, [], ◌∷◌, length, map}
use Rattle.bc_shapes.specs.Shape.{after}
use Rattle.bc_shapes.specs.Views.{gives_of}
use Rattle.bc_flow.specs.Edges.{There, edge_of, jump_way}
use Rattle.bc_flow.specs.Views.{action_of, behind_of}
use Rattle.bc_flow.proofs.Judging.{there_slots, edge_is}
use Rattle.bc_flow.proofs.edges.jump_edge.Goals as goal

pub returns-in-Some : goal.returns-in-Some
returns-in-Some c x b =
    let a = action_of c.args.action.now in
    let sl = after (gives_of c.gives_there.result) c.len.result c.args.base.now in
    let slots = there_slots a x (gives_of c.gives_there.result) c.len.result c.args.base.now sl b c.gives_there.ensures (c.len.ensures ∙ ap length c.takes.ensures) refl in
    ap (λ e. e ∷ []) (edge_is a x There c.in-Some.to c.in-Some.to (behind_of c.args.behind) sl _ refl refl slots)
    ∙ ap (λ o. map (edge_of a x) (jump_way o (behind_of c.args.behind))) c.in-Some.ensures
