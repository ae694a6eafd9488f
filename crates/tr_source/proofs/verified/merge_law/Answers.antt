use Rattle.tr_source.proofs.Merging.{merge_verified}
use Rattle.tr_source.proofs.verified.merge_law.Goals as goal

pub returns : goal.returns
returns c m ms h = merge_verified m ms h
