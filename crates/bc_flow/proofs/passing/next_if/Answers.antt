use Rattle.std.proofs.Common.{ap, ◌∙◌, ◌∷◌, [], map}
use Rattle.bc_flow.specs.Edges.{edge_of, next_way}
use Rattle.bc_flow.specs.Views.{action_of, behind_of}
use Rattle.bc_flow.proofs.passing.next_if.Goals as goal

pub returns-then-goes_on : goal.returns-then-goes_on
returns-then-goes_on c x b =
    ap (λ e. e ∷ []) (c.next_edge.ensures x b)
    ∙ ap (λ z. map (edge_of (action_of c.args.action.now) x) (next_way z c.args.p (behind_of c.args.behind))) c.if-goes_on.ensures

pub returns-else-goes_on : goal.returns-else-goes_on
returns-else-goes_on c x b =
    ap (λ z. map (edge_of (action_of c.args.action.now) x) (next_way z c.args.p (behind_of c.args.behind))) c.if-goes_on.ensures
