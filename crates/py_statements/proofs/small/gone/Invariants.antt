use Rattle.std.proofs.Common.{◌≡◌, ◌-◌}
use Rattle.py_expressions.specs.Input.{input_of}
use Rattle.std.specs.Prelude.{false}
use Rattle.py_expressions.specs.Targets.{one_gone}
use Rattle.py_statements.specs.Reading.{series, series_from}
use Rattle.py_statements.proofs.small.gone.Given as goal

abbrev pub invariant-loop-turn : goal.invariant-loop-turn
invariant-loop-turn l = series one_gone false (input_of l.fn.tokens) ≡ series_from one_gone false (l._turn-end - l._turn) l.found (input_of l.tokens)
