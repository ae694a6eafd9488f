use Rattle.std.proofs.Common.{All, take}
use Rattle.py_tokens.specs.Name.{IsNamePart}
use Rattle.py_tokens.proofs.name.run_len.Given as goal

abbrev pub invariant-loop-i : goal.invariant-loop-i
invariant-loop-i l = All IsNamePart (take l.i l.bytes)
