use Rattle.std.proofs.Common.{◌≡◌, ◌-◌}
use Rattle.manifest_lines.specs.Calls.{arguments_from, arguments}
use Rattle.manifest_lines.proofs.call.read_arguments.Given as goal

abbrev pub invariant-loop-turn : goal.invariant-loop-turn
invariant-loop-turn l = arguments l.fn.tokens.tokens.now ≡ arguments_from (l._turn-end - l._turn) l.found l.tokens.tokens.now
