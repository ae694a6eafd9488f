use Rattle.std.proofs.Common.{◌+◌, ◌≤◌, length}
use Rattle.board_plan.specs.Lines.{lines_of}
use Rattle.board_plan.proofs.Read.{Reads}
use Rattle.board_plan.proofs.reading.read_plan.Given as goal

abbrev pub invariant-more : goal.invariant-more
invariant-more l = Reads (lines_of l.text) (lines_of l.rest) l.number l.plan × (l.number + length l.rest ≤ length l.text)

abbrev pub decreases-more : goal.decreases-more
decreases-more l = length l.rest
