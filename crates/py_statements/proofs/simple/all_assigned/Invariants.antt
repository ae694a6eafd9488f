use Rattle.std.proofs.Common.{◌≡◌, ◌-◌}
use Rattle.py_expressions.specs.Input.{input_of}
use Rattle.py_statements.specs.Reading.{all_assigned, assigned}
use Rattle.py_statements.proofs.simple.all_assigned.Given as goal

abbrev pub invariant-loop-turn : goal.invariant-loop-turn
invariant-loop-turn l = all_assigned l.fn.depth l.fn.first (input_of l.fn.tokens) ≡ assigned l.fn.depth (l._turn-end - l._turn) l.targets l.value (input_of l.tokens)
