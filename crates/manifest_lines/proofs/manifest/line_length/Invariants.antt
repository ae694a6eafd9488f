use Rattle.std.proofs.Common.{◌≡◌, ◌+◌, drop}
use Rattle.manifest_lines.specs.Lines.{line_length}
use Rattle.manifest_lines.proofs.manifest.line_length.Given as goal

abbrev pub invariant-loop-at : goal.invariant-loop-at
invariant-loop-at l = line_length l.tokens ≡ l.at + line_length (drop l.at l.tokens)
