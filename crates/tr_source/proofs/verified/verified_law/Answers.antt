use Rattle.tr_source.proofs.Trees.{translation_verified}
use Rattle.tr_source.proofs.verified.verified_law.Goals as goal

pub returns : goal.returns
returns c source m t lim = translation_verified source m t lim
