use Rattle.std.proofs.Common.{◌≡◌, ◌-◌}
use Rattle.py_expressions.specs.Input.{input_of}
use Rattle.std.specs.Prelude.{false}
use Rattle.py_expressions.specs.Input as input
use Rattle.py_statements.specs.Reading.{series, series_from}
use Rattle.py_statements.proofs.names.names.Given as goal

abbrev pub invariant-loop-turn : goal.invariant-loop-turn
invariant-loop-turn l = series input.name false (input_of l.fn.tokens) ≡ series_from input.name false (l._turn-end - l._turn) l.found (input_of l.tokens)
