use Rattle.std.proofs.Common.{◌≡◌, ◌-◌}
use Rattle.py_expressions.specs.Input.{input_of}
use Rattle.py_statements.specs.Reading.{series, series_from, alias}
use Rattle.py_statements.proofs.imports.aliases.Given as goal

abbrev pub invariant-loop-turn : goal.invariant-loop-turn
invariant-loop-turn l = series (alias l.fn.with_dots) l.fn.bracketed (input_of l.fn.tokens) ≡ series_from (alias l.fn.with_dots) l.fn.bracketed (l._turn-end - l._turn) l.found (input_of l.tokens)
