use Rattle.std.proofs.Common.{◌+◌, suc, ap, refl, ◌∙◌, arith, length}
use Rattle.bc_shapes.specs.Shape.{after}
use Rattle.bc_shapes.specs.Views.{gives_of}
use Rattle.bc_flow.specs.Edges.{Next}
use Rattle.bc_flow.specs.Views.{action_of, behind_of}
use Rattle.bc_flow.proofs.Judging.{next_slots, edge_is}
use Rattle.bc_flow.proofs.edges.next_edge.Goals as goal

pub returns : goal.returns
returns c x b =
    let a = action_of c.args.action.now in
    let sl = after (gives_of c.gives.result) c.len.result c.args.base.now in
    let slots = next_slots a x (gives_of c.gives.result) c.len.result c.args.base.now sl b c.gives.ensures (c.len.ensures ∙ ap length c.takes.ensures) refl in
    edge_is a x Next (c.args.p + 1) (suc c.args.p) (behind_of c.args.behind) sl _ refl (omega arith) slots
