use Rattle.std.proofs.Common.{◌≡◌, ◌-◌}
use Rattle.py_expressions.specs.Input.{input_of}
use Rattle.py_statements.specs.Reading.{one_line, statements}
use Rattle.py_statements.proofs.line.one_line.Given as goal

abbrev pub invariant-loop-turn : goal.invariant-loop-turn
invariant-loop-turn l = one_line (input_of l.fn.tokens) ≡ statements (l._turn-end - l._turn) l.found (input_of l.tokens)
