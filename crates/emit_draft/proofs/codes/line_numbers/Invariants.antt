use Rattle.std.proofs.Common.{◌≡◌, take, map}
use Rattle.emit_draft.specs.Finished.{line_number}
use Rattle.emit_draft.proofs.codes.line_numbers.Given as goal

abbrev pub invariant-loop-line : goal.invariant-loop-line
invariant-loop-line l = l.numbers ≡ map line_number (take l.line-index l.lines)
