use Rattle.std.proofs.Common.{ℕ, ◌+◌, ◌-◌, ◌*◌, ◌≡◌, ◌++◌, sym, ◌∙◌, ap, subst, arith}
use Rattle.run_commands.specs.Draws.{after}
use Rattle.run_commands.specs.Source.{assignments}
use Rattle.run_commands.proofs.Puts.{assignments_step, after_step, assignments_end, after_end}
use Rattle.run_commands.proofs.source.put_assignments.Goals as goal

pub loop-init : goal.loop-init
loop-init c =
    let e : c.args.count - 0 ≡ c.args.count = omega arith in (
      ap (λ n. c.args.text.now.items ++ assignments c.args.draws.now.state n) e,
      ap (λ n. after c.args.draws.now.state (2 * n)) e,
    )

pub loop-preserved : goal.loop-preserved
loop-preserved c =
    let was = c.loop.invariant in
    let put = c.in_ok-put_assignment.ensures in
    let left : ℕ = c.args.count - (c.loop.counter + 1) in (
      subst (λ state. c.put_assignment.new.text.items ++ assignments state left ≡ c.args.text.now.items ++ assignments c.args.draws.now.state c.args.count) (sym put.state)
          (assignments_step _ _ _ c.loop.draws.state c.args.count c.loop.counter c.loop-test.true was.0 put.text),
      ap (λ state. after state (2 * left)) put.state ∙ (sym (after_step c.loop.draws.state c.args.count c.loop.counter c.loop-test.true) ∙ was.1),
    )

pub returns-clause-text : goal.returns-clause-text
returns-clause-text c = assignments_end _ _ c.loop.draws.state c.args.count c.loop.counter (omega arith) c.loop.invariant.0

pub returns-clause-state : goal.returns-clause-state
returns-clause-state c = after_end _ _ c.args.count c.loop.counter (omega arith) c.loop.invariant.1
