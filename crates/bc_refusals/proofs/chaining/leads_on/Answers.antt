use Rattle.std.proofs.Common.{◌≡◌, ◌∙◌, ap, length, subst, sym, rules}
use Rattle.std.proofs.lemmas.Bool.{OnTrue_at, OnTrue_from}
use Rattle.std.proofs.lemmas.Result.{IfOk-weaker}
use Rattle.bc_flow.specs.bc_shapes.Views.{at_of}
use Rattle.bc_flow.specs.Action.{none}
use Rattle.bc_certificates.specs.Checking.{Lead, Lies, ordered, rows_of}
use Rattle.bc_refusals.specs.Chains.{SetAll}
use Rattle.bc_refusals.proofs.Runs.{lies_by}
use Rattle.bc_refusals.proofs.chaining.leads_on.Goals as goal

pub returns : goal.returns
returns c =
    let rows = rows_of c.args.table.now in
    let x = at_of c.args.x.now in
    let long : c.len.result ≡ length x.slots = search rules in
    let order : c.are_ordered.result ≡ ordered (length x.slots) c.args.h x.entries =
    c.are_ordered.ensures ∙ ap (λ n. ordered n c.args.h c.deref.result.now) long ∙ ap (ordered (length x.slots) c.args.h) c.deref.ensures.value in
    let set = subst (SetAll c.args.leading.now) (c.raise_edge-raise.ensures none) (OnTrue_at c.if-not-ends_set.false c.ends_set.ensures) in
    IfOk-weaker c.leads_if.result _ _ (λ yes h. OnTrue_from yes (Lies rows x.slots x.entries)
    (λ t. lies_by rows c.args.leading.now none x c.args.h c.requires (sym order ∙ c.if-not-are_ordered.false) (subst (Lead rows) (c.raise_edge-raise.ensures none) (OnTrue_at t h)) set)) c.leads_if.ensures
