use Rattle.std.proofs.Common.{All, take}
use Rattle.py_tokens.specs.Lexeme.{IsBlank}
use Rattle.py_tokens.proofs.lexeme.blank_len.Given as goal

abbrev pub invariant-loop-i : goal.invariant-loop-i
invariant-loop-i l = All IsBlank (take l.i l.bytes)
