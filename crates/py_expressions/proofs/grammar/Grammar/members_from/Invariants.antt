use Rattle.std.proofs.Common.{◌≡◌, ◌-◌}
use Rattle.py_expressions.specs.Input.{input_of}
use Rattle.py_expressions.specs.Reading.{expr, members_from}
use Rattle.py_expressions.proofs.grammar.Grammar.members_from.Given as goal

abbrev pub invariant-loop-turn : goal.invariant-loop-turn
invariant-loop-turn g l = members_from (expr l.self.depth l.item) l.turns l.fn.found (input_of l.fn.tokens) ≡ members_from (expr l.self.depth l.item) (l.turns - l._turn) l.found (input_of l.tokens)
