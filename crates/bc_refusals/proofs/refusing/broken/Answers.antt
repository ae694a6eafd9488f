use Rattle.std.proofs.Common.{◌∙◌, false, map, subst, sym}
use Rattle.bc_flow.specs.bc_shapes.Views.{at_of}
use Rattle.bc_flow.specs.Code.{code_of}
use Rattle.bc_flow.specs.Views.{action_of, edge_of_rust}
use Rattle.bc_flow.proofs.Judging.{holds_is}
use Rattle.bc_certificates.specs.Checking.{rows_of}
use Rattle.bc_certificates.specs.Rows.{carried}
use Rattle.bc_refusals.specs.Stages.{Agrees}
use Rattle.bc_refusals.proofs.Faults.{breaks_agree, breaks_holds}
use Rattle.bc_refusals.proofs.Steps.{some_at}
use Rattle.bc_refusals.proofs.refusing.broken.Goals as goal

pub returns-then-not-holds : goal.returns-then-not-holds
returns-then-not-holds c =
    let code = code_of c.args.code.now in
    let i = action_of c.args.action.now in
    let x = at_of c.args.x.now in
    let r = c.requires in
    breaks_holds code (carried code (rows_of c.args.table.now)) c.args.came.now c.args.p x i r.action_is r.there r.came_there
    (sym (c.holds.ensures ∙ holds_is code i c.args.p x (map edge_of_rust c.args.edges.now) r.along) ∙ c.if-not-holds.true)

pub broken_slots-requires-clause-handlers : goal.broken_slots-requires-clause-handlers
broken_slots-requires-clause-handlers c =
    sym (c.holds.ensures ∙ holds_is (code_of c.args.code.now) (action_of c.args.action.now) c.args.p (at_of c.args.x.now) (map edge_of_rust c.args.edges.now) c.requires.along) ∙ c.if-not-holds.false

pub broken_slots-requires-clause-agrees : goal.broken_slots-requires-clause-agrees
broken_slots-requires-clause-agrees c t long m =
    some_at c.in_ok-agree.field-0 c.in-Some-true.field-0 _ c.in-Some-true.is (c.in_ok-agree.ensures (code_of c.args.code.now) c.requires.carried_is) t long m ∙ c.in-Some-true.field-0-test

pub returns-in-Some-false : goal.returns-in-Some-false
returns-in-Some-false c =
    let code = code_of c.args.code.now in
    let a = carried code (rows_of c.args.table.now) in
    let i = action_of c.args.action.now in
    let x = at_of c.args.x.now in
    let r = c.requires in
    let h = sym (c.holds.ensures ∙ holds_is code i c.args.p x (map edge_of_rust c.args.edges.now) r.along) ∙ c.if-not-holds.false in
    breaks_agree code a c.args.came.now c.args.p x i r.action_is r.there r.came_there h r.long
    (subst (λ es. Agrees a c.args.came.now es false) r.along
    (λ t long m. some_at c.in_ok-agree.field-0 c.in-Some-false.field-0 _ c.in-Some-false.is (c.in_ok-agree.ensures code r.carried_is) t long m ∙ c.in-Some-false.field-0-test))
