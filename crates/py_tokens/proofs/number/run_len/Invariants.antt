use Rattle.std.proofs.Common.{All, take}
use Rattle.py_tokens.specs.Number.{IsRunPart}
use Rattle.py_tokens.proofs.number.run_len.Given as goal

abbrev pub invariant-loop-i : goal.invariant-loop-i
invariant-loop-i l = All IsRunPart (take l.i l.bytes)
