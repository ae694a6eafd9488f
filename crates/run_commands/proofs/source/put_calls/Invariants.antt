use Rattle.std.proofs.Common.{◌≡◌, ◌-◌, ◌++◌}
use Rattle.run_commands.specs.Source.{calls}
use Rattle.run_commands.proofs.source.put_calls.Given as goal

abbrev pub invariant-loop-number : goal.invariant-loop-number
invariant-loop-number l = l.text.items ++ calls (l.many - l.number) l.number ≡ l.initial.text.items ++ calls l.many 0
