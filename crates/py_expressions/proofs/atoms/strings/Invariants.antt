use Rattle.std.proofs.Common.{◌≡◌, ◌-◌}
use Rattle.py_expressions.specs.Input.{input_of}
use Rattle.py_expressions.specs.Reading.{strings, all_strings}
use Rattle.py_expressions.proofs.atoms.strings.Given as goal

abbrev pub invariant-loop-turn : goal.invariant-loop-turn
invariant-loop-turn l = all_strings (input_of l.fn.tokens) ≡ strings (l._turn-end - l._turn) l.bytes.items (input_of l.tokens)
