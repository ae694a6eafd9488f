use Rattle.std.proofs.Common.{◌≡◌, ◌-◌, ◌++◌}
use Rattle.run_commands.specs.Source.{functions}
use Rattle.run_commands.proofs.source.put_functions.Given as goal

abbrev pub invariant-loop-number : goal.invariant-loop-number
invariant-loop-number l =
    l.text.items ++ functions (l.many - l.number) l.draws.state l.number l.left
    ≡ l.initial.text.items ++ functions l.many l.initial.draws.state 0 l.count
