use Rattle.std.proofs.Common.{length}
use Rattle.board_files.proofs.summary.+put_lines.Given as goal

abbrev pub decreases-put_lines : goal.decreases-put_lines
decreases-put_lines g l = length l.lines.now
