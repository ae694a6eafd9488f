use Rattle.std.proofs.Common.{◌≡◌, ◌-◌}
use Rattle.py_expressions.specs.Input.{input_of}
use Rattle.py_expressions.specs.Reading.{expr, trailers, all_trailers}
use Rattle.py_expressions.proofs.grammar.Grammar.trailers.Given as goal

abbrev pub invariant-loop-turn : goal.invariant-loop-turn
invariant-loop-turn g l = all_trailers (expr l.self.depth) l.fn.left (input_of l.fn.tokens) ≡ trailers (expr l.self.depth) (l._turn-end - l._turn) l.left (input_of l.tokens)
