use Rattle.std.proofs.Common.{◌≡◌, ◌+◌, ◌≤◌, drop}
use Rattle.py_tokens.specs.Tokens.{line_ends}
use Rattle.py_tokens.proofs.lines.count_line_ends.Given as goal

abbrev pub invariant-loop-i : goal.invariant-loop-i
invariant-loop-i l = (l.count + line_ends (drop l.i l.text) ≡ line_ends l.text) × (l.count ≤ l.i)
