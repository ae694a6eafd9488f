use Rattle.std.proofs.Common.{ℕ, ◌-◌, ◌≡◌, ◌++◌, ap, refl, arith}
use Rattle.run_commands.specs.Source.{functions}
use Rattle.run_commands.proofs.Puts.{functions_step, functions_end, function_put}
use Rattle.run_commands.proofs.source.put_functions.Goals as goal

pub loop-number-init : goal.loop-number-init
loop-number-init c =
    let many : ℕ = c.args.many in
    let e : many - 0 ≡ many = omega arith in
    ap (λ n. c.args.text.now.items ++ functions n c.args.draws.now.state 0 c.args.count) e

pub loop-number-preserved : goal.loop-number-preserved
loop-number-preserved c =
    let was = c.loop-number in
    let many : ℕ = c.args.many in
    functions_step _ _ _ many was.draws.state _ was.number was.left c.min-here.result _ (omega arith) was.invariant c.min-here.ensures
    (function_put _ _ _ was.draws.state was.number c.min-here.result c.in_ok-put_number.ensures c.in_ok-put_assignments.ensures.text)
    c.in_ok-put_assignments.ensures.state refl

pub returns : goal.returns
returns c =
    let many : ℕ = c.args.many in
    functions_end _ _ many c.loop-number.number c.loop-number.draws.state c.loop-number.number c.loop-number.left (omega arith) c.loop-number.invariant
