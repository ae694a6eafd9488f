use Rattle.std.proofs.Common.{◌≡◌, ◌-◌, [], true}
use Rattle.py_expressions.specs.Input.{input_of}
use Rattle.py_parser.specs.Reading.{file_from}
use Rattle.py_parser.proofs.source.file_from.Given as goal

abbrev pub invariant-loop-turn : goal.invariant-loop-turn
invariant-loop-turn l = file_from l.depth l.turns [] (input_of l.fn.tokens) ≡ file_from l.depth (l.turns - l._turn) l.found (input_of l.tokens)
