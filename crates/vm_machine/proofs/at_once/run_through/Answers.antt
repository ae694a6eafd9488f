use Rattle.std.proofs.Common.{◌≡◌, ◌+◌, ℕ, subst, arith}
use Rattle.vm_machine.specs.Acting.{Stepped}
use Rattle.vm_machine.proofs.AtOnce.{in_turn, none_yet}
use Rattle.vm_machine.proofs.at_once.run_through.Goals as goal

pub returns-in-Some-clause-stepped : goal.returns-in-Some-clause-stepped
returns-in-Some-clause-stepped c = (none_yet c.args.library.now c.args.vm.now c.args.most c.requires.vm c.requires.unpaid).stepped

pub returns-then-more-eq0-clause-stepped : goal.returns-then-more-eq0-clause-stepped
returns-then-more-eq0-clause-stepped c =
    let none = c.if-more-eq0.true in
    let same : c.run_here-ran.result + c.step_unpaid-more.result ≡ c.run_here-ran.result = omega (arith, none) in
    subst (λ (n : ℕ). Stepped c.args.library.now n c.args.vm.now c.step_unpaid-more.new.vm) same
    (in_turn c.args.library.now c.args.vm.now c.run_here-ran.new.vm c.step_unpaid-more.new.vm c.run_here-ran.result c.step_unpaid-more.result c.run_here-ran.ensures.stepped c.step_unpaid-more.ensures.stepped)

pub returns-else-more-eq0-clause-stepped : goal.returns-else-more-eq0-clause-stepped
returns-else-more-eq0-clause-stepped c =
    in_turn c.args.library.now c.args.vm.now c.run_here-ran.new.vm c.step_unpaid-more.new.vm c.run_here-ran.result c.step_unpaid-more.result c.run_here-ran.ensures.stepped c.step_unpaid-more.ensures.stepped
