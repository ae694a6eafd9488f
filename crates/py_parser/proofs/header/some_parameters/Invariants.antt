use Rattle.std.proofs.Common.{◌≡◌, ◌-◌, [], true}
use Rattle.py_expressions.specs.Input.{input_of}
use Rattle.py_statements.specs.Reading.{series, series_from}
use Rattle.py_parser.specs.Reading.{parameter}
use Rattle.py_parser.proofs.header.some_parameters.Given as goal

abbrev pub invariant-loop-turn : goal.invariant-loop-turn
invariant-loop-turn l = series parameter true (input_of l.fn.tokens) ≡ series_from parameter true (l._turn-end - l._turn) l.found (input_of l.tokens)
