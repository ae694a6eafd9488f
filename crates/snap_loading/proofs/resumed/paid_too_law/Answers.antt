use Rattle.snap_loading.proofs.PaidToo.{paid_as}
use Rattle.snap_loading.proofs.resumed.paid_too_law.Goals as goal

pub returns : goal.returns
returns c r library s t keeps is pays = paid_as r library keeps (λ a b e. c.step_law.ensures.step r library a b keeps e) s t is pays
