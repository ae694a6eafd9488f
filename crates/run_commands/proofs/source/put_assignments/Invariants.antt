use Rattle.std.proofs.Common.{◌≡◌, ◌-◌, ◌*◌, ◌++◌}
use Rattle.run_commands.specs.Draws.{after}
use Rattle.run_commands.specs.Source.{assignments}
use Rattle.run_commands.proofs.source.put_assignments.Given as goal

abbrev pub invariant-loop : goal.invariant-loop
invariant-loop l =
    (l.text.items ++ assignments l.draws.state (l.count - l.counter) ≡ l.initial.text.items ++ assignments l.initial.draws.state l.count)
    × (after l.draws.state (2 * (l.count - l.counter)) ≡ after l.initial.draws.state (2 * l.count))
