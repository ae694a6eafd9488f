use Rattle.std.proofs.Common.{◌-◌, length}
use Rattle.py_tokens.proofs.Reading.{Progress}
use Rattle.py_tokens.proofs.string.read_string.Given as goal

abbrev pub invariant-loop-piece : goal.invariant-loop-piece
invariant-loop-piece l = Progress l.raw l.quotes l.bytes l.at l.text.items

abbrev pub decreases-loop-piece : goal.decreases-loop-piece
decreases-loop-piece l = length l.bytes - l.at
