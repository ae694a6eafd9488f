use Rattle.std.proofs.Common.{◌≡◌, ◌-◌}
use Rattle.manifest_lines.specs.Literals.{strings_from, strings}
use Rattle.manifest_lines.proofs.literal.strings.Given as goal

abbrev pub invariant-loop-turn : goal.invariant-loop-turn
invariant-loop-turn l = strings l.fn.tokens.tokens.now ≡ strings_from (l._turn-end - l._turn) l.bytes.items l.tokens.tokens.now
