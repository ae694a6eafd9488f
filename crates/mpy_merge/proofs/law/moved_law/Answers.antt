use Rattle.mpy_merge.proofs.Reading.{tree_moved}
use Rattle.mpy_merge.proofs.law.moved_law.Goals as goal

pub returns : goal.returns
returns c tables base m merged fit is few joined levels tree raw moved text nests verified h r =
    tree_moved tables fit base m merged is few joined c.lines_law.ensures.lines levels tree raw moved (text, nests) verified h r
