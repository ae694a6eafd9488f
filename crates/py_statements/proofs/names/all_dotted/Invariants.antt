use Rattle.std.proofs.Common.{◌≡◌, ◌-◌}
use Rattle.py_expressions.specs.Input.{input_of}
use Rattle.py_statements.specs.Reading.{all_dotted, dotted_from}
use Rattle.py_statements.proofs.names.all_dotted.Given as goal

abbrev pub invariant-loop-turn : goal.invariant-loop-turn
invariant-loop-turn l = all_dotted l.fn.first (input_of l.fn.tokens) ≡ dotted_from (l._turn-end - l._turn) l.bytes.items (input_of l.tokens)
