use Rattle.tr_source.proofs.Functions.{tree_spelled}
use Rattle.tr_source.proofs.spelled.spelled_law.Goals as goal

pub returns : goal.returns
returns c = tree_spelled
