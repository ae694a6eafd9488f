use Rattle.tr_source.proofs.Unique.{one_translation}
use Rattle.tr_source.proofs.verified.unique_law.Goals as goal

pub returns : goal.returns
returns c source m n t u lim num = one_translation source m n t u lim num
