use Rattle.std.proofs.Common.{◌-◌, ◌≡◌, ◌++◌, ap, arith}
use Rattle.run_commands.specs.Source.{calls}
use Rattle.run_commands.proofs.Puts.{calls_step, calls_end}
use Rattle.run_commands.proofs.source.put_calls.Goals as goal

pub loop-number-init : goal.loop-number-init
loop-number-init c =
    let e : c.args.many - 0 ≡ c.args.many = omega arith in
    ap (λ n. c.args.text.now.items ++ calls n 0) e

pub loop-number-preserved : goal.loop-number-preserved
loop-number-preserved c = calls_step _ _ _ c.args.many c.loop-number.number c.loop-number-test.true c.loop-number.invariant c.in_ok-put_number.ensures

pub returns : goal.returns
returns c = calls_end _ _ c.args.many c.loop-number.number c.loop-number.number (omega arith) c.loop-number.invariant
