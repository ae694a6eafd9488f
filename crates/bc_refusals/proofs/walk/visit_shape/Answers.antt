use Rattle.std.proofs.Common.{◌∙◌, ap, map, subst, sym}
use Rattle.std.proofs.lemmas.Bool.{OnTrue_at}
use Rattle.bc_flow.specs.bc_shapes.Views.{at_of}
use Rattle.bc_flow.specs.Code.{code_of}
use Rattle.bc_flow.specs.Edges.{edges}
use Rattle.bc_flow.specs.Views.{action_of, edge_of_rust}
use Rattle.bc_flow.proofs.Puts.{some_is}
use Rattle.bc_certificates.specs.Checking.{rows_of}
use Rattle.bc_certificates.specs.Rows.{carried}
use Rattle.bc_refusals.specs.Stages.{Breaks, Keeps}
use Rattle.bc_refusals.proofs.Faults.{first_fault}
use Rattle.bc_refusals.proofs.Starts.{known_on}
use Rattle.bc_refusals.proofs.Steps.{some_at}
use Rattle.bc_refusals.proofs.walk.visit_shape.Goals as goal

pub returns-then-branch : goal.returns-then-branch
returns-then-branch c =
    let code = code_of c.args.code.now in
    let rows = rows_of c.args.table.now in
    let x = at_of c.args.x.now in
    let k = subst (λ cs. Keeps code (carried code rows) cs c.args.p x) c.deref.ensures.value (OnTrue_at c.if-branch.true c.in_ok-keeps.ensures) in
    c.go_on.ensures code rows x (known_on code rows c.args.walk.now c.carry.new.carried c.requires.follows (c.in_ok-inner.ensures.known c.requires.follows.known)) c.requires.next c.requires.there k
    (ap (map edge_of_rust) c.deref-then-branch.ensures.value ∙ c.in_ok-edges.ensures
    ∙ ap (λ i. edges code i c.args.p x) (some_is (action_of c.action_in-action.result) k.action (sym c.action_in-action.ensures ∙ k.is)))

pub returns-in-Some : goal.returns-in-Some
returns-in-Some c =
    let code = code_of c.args.code.now in
    let rows = rows_of c.args.table.now in
    let w = c.args.walk.now in
    first_fault code (carried code rows) w.came.items w.gone.items c.args.p c.in-Some.rule c.requires.follows.staged c.requires.next
    (subst (λ cs. Breaks code (carried code rows) cs c.args.p c.in-Some.rule) c.deref-3.ensures.value
    (some_at _ c.in-Some.rule (λ r. Breaks code (carried code rows) c.deref-3.result.now c.args.p r) c.in-Some.is c.in_ok-rule.ensures))
