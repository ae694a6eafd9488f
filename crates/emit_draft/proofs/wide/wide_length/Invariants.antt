use Rattle.std.proofs.Common.{drop}
use Rattle.emit_draft.proofs.Lengths.{Measured}
use Rattle.emit_draft.proofs.wide.wide_length.Given as goal

abbrev pub invariant-loop-line : goal.invariant-loop-line
invariant-loop-line l = Measured l.lines (drop l.line-index l.lines) l.length
