use Rattle.std.proofs.Common.{◌≡◌, ◌∙◌, ap, length, map, rules}
use Rattle.bc_shapes.specs.Views.{at_of}
use Rattle.bc_flow.specs.Edges.{behind, change, edge_of, falls, jump_way, next_way, target}
use Rattle.std.specs.Prelude.{◌&&◌, nat_lt, suc}
use Rattle.bc_flow.specs.Views.{action_of, behind_of}
use Rattle.bc_flow.proofs.Holes.{edges_are, one_of}
use Rattle.bc_flow.proofs.passing.edges_from.Goals as goal

pub returns : goal.returns
returns c code long none =
    let a = action_of c.args.action.now in
    let x = at_of c.args.x.now in
    let b : behind_of c.entries_behind-behind.result ≡ behind (change a) (length x.slots) x.entries = search rules in
    edges_are code a c.args.p x c.args.size (one_of c.next_if.result) (one_of c.jump_edge.result) (one_of c.raise_edge.result) long none
    (c.next_if.ensures x c.base-base.ensures ∙ ap (λ z. map (edge_of a x) (next_way (falls a && nat_lt (suc c.args.p) c.args.size) c.args.p z)) b)
    (c.jump_edge.ensures x c.base-base.ensures ∙ ap (λ z. map (edge_of a x) (jump_way (target a) z)) b)
    (c.raise_edge.ensures a)
