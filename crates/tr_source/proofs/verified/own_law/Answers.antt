use Rattle.tr_source.proofs.Own.{own_is}
use Rattle.tr_source.proofs.verified.own_law.Goals as goal

pub returns : goal.returns
returns c body = own_is body
