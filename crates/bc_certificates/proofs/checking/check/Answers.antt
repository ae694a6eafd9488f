use Rattle.std.proofs.Common.{◌≡◌, length, arith, rules}
use Rattle.std.proofs.lemmas.Bool.{OnTrue_at}
use Rattle.std.proofs.lemmas.List.{length-map}
use Rattle.bc_flow.specs.bc_shapes.Views.{at_of}
use Rattle.bc_flow.specs.Action.{action}
use Rattle.bc_flow.specs.Code.{code_of}
use Rattle.bc_certificates.specs.Rows.{at_if}
use Rattle.bc_certificates.specs.Checking.{rows_of}
use Rattle.bc_certificates.proofs.Checks.{begins, goes_on_checked}
use Rattle.bc_certificates.proofs.Ends.{ends_all}
use Rattle.bc_certificates.proofs.checking.check.Goals as goal

pub loop-p-init : goal.loop-p-init
loop-p-init c = begins (code_of c.args.code.now) (rows_of c.args.table.now)

pub loop-p-preserved : goal.loop-p-preserved
loop-p-preserved c =
    let h = at_if c.take_row.new.held.here (at_of c.take_row.new.held.x) in
    let n = at_if c.go_if.new.held.here (at_of c.go_if.new.held.x) in
    goes_on_checked (code_of c.args.code.now) (rows_of c.args.table.now) c.loop-p.p _ h n c.loop-p.invariant c.in_ok-take_row.ensures
    (λ x e. OnTrue_at c.if-not-branch-2.false (c.in_ok-go_if.ensures.keeps x e)) (OnTrue_at c.if-not-branch-2.false c.in_ok-go_if.ensures.brings)

pub returns : goal.returns
returns c =
    let items = c.args.code.now.items.items in
    let size = length-map items (action (length items)) in
    let long : c.len.result ≡ length items = search rules in
    let all : c.len-p-end.result ≡ length items = search rules in
    let few = OnTrue_at c.if-not-has_few.false c.has_few.ensures in
    ends_all (code_of c.args.code.now) c.args.table.now c.loop-p.p _ (omega (arith, size, long, few)) (omega (arith, size, all, c.loop-p-test.false)) (OnTrue_at c.if-not-branch.false c.in_ok-starts.ensures) c.loop-p.invariant
