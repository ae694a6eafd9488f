use Rattle.std.proofs.Common.{◌≡◌, ◌∙◌, length, rules, subst, sym}
use Rattle.std.proofs.lemmas.Bool.{OnTrue_at}
use Rattle.std.proofs.lemmas.List.{length-map}
use Rattle.bc_flow.specs.Action.{action}
use Rattle.bc_flow.specs.Code.{code_of}
use Rattle.bc_certificates.specs.Checking.{rows_of}
use Rattle.bc_refusals.specs.Chains.{LeadOn}
use Rattle.bc_refusals.proofs.Starts.{follows_start}
use Rattle.bc_refusals.proofs.walk.fault_by.Goals as goal

pub loop-turn-init : goal.loop-turn-init
loop-turn-init c =
    let items = c.args.code.now.items.items in
    let size : length items ≡ c.len-size.result = search rules in
    follows_start (code_of c.args.code.now) (rows_of c.args.table.now) c.in_ok-walk.walk c.len-size.result (length-map items (action (length items)) ∙ size) c.if-size-eq0.false
    (OnTrue_at c.if-not-branch.false c.in_ok-starts_empty.ensures) c.in_ok-walk.ensures.came c.in_ok-walk.ensures.gone c.in_ok-walk.ensures.from c.in_ok-walk.ensures.carried

pub visit-requires-clause-leading_are : goal.visit-requires-clause-leading_are
visit-requires-clause-leading_are c = subst (LeadOn (rows_of c.args.table.now)) (sym c.deref-in-loop-turn-2.ensures.value) c.in_ok-leading.ensures
