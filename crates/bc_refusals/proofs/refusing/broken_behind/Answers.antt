use Rattle.std.proofs.Common.{◌∙◌, sym, subst}
use Rattle.std.proofs.lemmas.Bool.{OnTrue_at}
use Rattle.bc_flow.specs.bc_shapes.Views.{at_of}
use Rattle.bc_flow.specs.Code.{code_of}
use Rattle.bc_flow.specs.Views.{action_of}
use Rattle.bc_certificates.specs.Checking.{rows_of}
use Rattle.bc_certificates.specs.Rows.{carried}
use Rattle.bc_refusals.specs.Stages.{LeadAll}
use Rattle.bc_refusals.proofs.Faults.{breaks_falls, breaks_state}
use Rattle.bc_refusals.proofs.refusing.broken_behind.Goals as goal

pub returns-then-not-room : goal.returns-then-not-room
returns-then-not-room c =
    let code = code_of c.args.code.now in
    let a = carried code (rows_of c.args.table.now) in
    let r = c.requires in
    breaks_state code a c.args.came.now c.args.p (at_of c.args.x.now) (action_of c.args.action.now) r.action_is r.there r.came_there r.handlers r.height r.long
    (subst (LeadAll a c.args.came.now) r.along (OnTrue_at c.if-not-branch.false (c.in_ok-all_lead.ensures code r.carried_is))) (sym c.room.ensures ∙ c.if-not-room.true)

pub returns-then-not-stays : goal.returns-then-not-stays
returns-then-not-stays c =
    let code = code_of c.args.code.now in
    let a = carried code (rows_of c.args.table.now) in
    let r = c.requires in
    breaks_falls code a c.args.came.now c.args.p (at_of c.args.x.now) (action_of c.args.action.now) r.action_is r.there r.came_there r.handlers r.height r.long
    (subst (LeadAll a c.args.came.now) r.along (OnTrue_at c.if-not-branch.false (c.in_ok-all_lead.ensures code r.carried_is)))
    (sym c.room.ensures ∙ c.if-not-room.false) (sym c.stays.ensures ∙ c.if-not-stays.true)
