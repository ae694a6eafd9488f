use Rattle.std.proofs.Common.{◌≡◌, ◌++◌, length}
use Rattle.manifest_lines.specs.Lines.{lines_of}
use Rattle.manifest_lines.proofs.manifest.lines.Given as goal

abbrev pub invariant-more : goal.invariant-more
invariant-more l = l.found.items ++ lines_of l.rest ≡ lines_of l.tokens

abbrev pub decreases-more : goal.decreases-more
decreases-more l = length l.rest
