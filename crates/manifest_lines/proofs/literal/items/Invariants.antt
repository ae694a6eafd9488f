use Rattle.std.proofs.Common.{◌≡◌, ◌-◌}
use Rattle.manifest_lines.specs.Literals.{items_from, items}
use Rattle.manifest_lines.proofs.literal.items.Given as goal

abbrev pub invariant-loop-turn : goal.invariant-loop-turn
invariant-loop-turn l = items l.fn.first l.fn.tokens.tokens.now ≡ items_from (l._turn-end - l._turn) l.found l.tokens.tokens.now
