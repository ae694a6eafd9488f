use Rattle.std.proofs.Common.{arith}
use Rattle.vm_machine.proofs.AtOnce.{in_turn, more_at_once}
use Rattle.vm_machine.proofs.at_once.run_at_once.Goals as goal

pub returns-then-not-goes_on-clause-stepped : goal.returns-then-not-goes_on-clause-stepped
returns-then-not-goes_on-clause-stepped c =
    in_turn c.args.library.now c.args.vm.now c.steps.vm c.run_through-more.new.vm c.steps.taken c.run_through-more.result.0 c.steps.invariant.0.stepped c.run_through-more.ensures.stepped

pub returns-then-not-goes_on-clause-few : goal.returns-then-not-goes_on-clause-few
returns-then-not-goes_on-clause-few c = let few = c.steps.invariant.0.few in omega (arith, few, c.run_through-more.ensures.few)

pub steps-preserved : goal.steps-preserved
steps-preserved c = (
  more_at_once c.args.library.now c.args.vm.now c.steps.vm c.run_through-more.new.vm c.steps.taken c.run_through-more.result.0 c.args.most c.steps.invariant.0 c.run_through-more.ensures.few c.run_through-more.ensures.stepped
      c.run_through-more.ensures.unpaid,
  c.run_through-more.ensures.kept,
)

pub steps-smaller : goal.steps-smaller
steps-smaller c = let some = c.run_through-more.ensures.some c.if-not-goes_on.false in omega (arith, some, c.steps-test.true)
