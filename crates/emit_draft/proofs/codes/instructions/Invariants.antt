use Rattle.std.proofs.Common.{take}
use Rattle.emit_draft.specs.Finished.{AreMade}
use Rattle.emit_draft.proofs.codes.instructions.Given as goal

abbrev pub invariant-loop-line : goal.invariant-loop-line
invariant-loop-line l = AreMade l.labels (take l.line-index l.lines) l.items
