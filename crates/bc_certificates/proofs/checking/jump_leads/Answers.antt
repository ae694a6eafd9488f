use Rattle.std.proofs.Common.{◌≡◌, ◌∙◌, ap, length, map, subst, rules}
use Rattle.std.proofs.lemmas.Result.{IfOk-weaker}
use Rattle.std.proofs.lemmas.Bool.{OnTrue_at, OnTrue_from}
use Rattle.bc_flow.specs.bc_shapes.Views.{at_of}
use Rattle.bc_flow.specs.Edges.{edge_of, jump_way, target}
use Rattle.bc_flow.specs.Views.{action_of, behind_of}
use Rattle.bc_certificates.specs.Checking.{Lead, jump_edges, rows_of}
use Rattle.bc_certificates.proofs.Checks.{behind_from}
use Rattle.bc_certificates.proofs.checking.jump_leads.Goals as goal

pub returns : goal.returns
returns c =
    let i = action_of c.args.action.now in
    let x = at_of c.args.x.now in
    let long : c.len.result ≡ length x.slots = search rules in
    let behind_is = behind_from i x c.change_of.result c.len.result c.deref.result.now (behind_of c.entries_behind-behind.result) c.entries_behind-behind.ensures c.change_of.ensures long c.deref.ensures.value in
    let edges_are = c.jump_edge.ensures x c.requires.base_is ∙ ap (λ z. map (edge_of i x) (jump_way (target i) z)) behind_is in
    IfOk-weaker c.leads_if.result _ _ (λ yes h. OnTrue_from yes (Lead (rows_of c.args.table.now) (jump_edges i x)) (λ e. subst (Lead (rows_of c.args.table.now)) edges_are (OnTrue_at e h))) c.leads_if.ensures
