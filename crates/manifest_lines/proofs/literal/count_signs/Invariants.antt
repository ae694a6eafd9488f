use Rattle.std.proofs.Common.{◌≡◌, ◌-◌}
use Rattle.manifest_lines.specs.Literals.{signs}
use Rattle.manifest_lines.proofs.literal.count_signs.Given as goal

abbrev pub invariant-loop-turn : goal.invariant-loop-turn
invariant-loop-turn l = signs l.sign l.fn.most 0 l.fn.tokens.tokens.now ≡ signs l.sign (l.most - l.turn) l.turn l.tokens.tokens.now
