use Rattle.std.proofs.Common.{All, take}
use Rattle.py_tokens.specs.Lexeme.{IsInLine}
use Rattle.py_tokens.proofs.lexeme.line_len.Given as goal

abbrev pub invariant-loop-i : goal.invariant-loop-i
invariant-loop-i l = All IsInLine (take l.i l.bytes)
