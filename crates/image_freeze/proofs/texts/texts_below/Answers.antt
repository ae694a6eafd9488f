use Rattle.std.proofs.Common.{Result, Err, refl, ap}
use Rattle.mpy_base.specs.declared.refused.Refused.{Refused}
use Rattle.qstr_pool.specs.Pool.{Texts}
use Rattle.qstr_pool.specs.declared.pool.Full.{Full}
use Rattle.image_open.proofs.Below.{below_is}
use Rattle.image_freeze.proofs.texts.texts_below.Goals as goal

pub returns-in-Ok-clause-ok : goal.returns-in-Ok-clause-ok
returns-in-Ok-clause-ok c = below_is c.in-Ok.pool c.args.below.now c.in-Ok.ensures.copied c.in-Ok.ensures.own

pub returns-in-Err-Fault-clause-fault : goal.returns-in-Err-Fault-clause-fault
returns-in-Err-Fault-clause-fault c =
    let failed = λ (e : Refused Full). let r : Result Texts (Refused Full) = Err e in r in
    (refl, c.in-Err-Fault.ensures.full (ap failed c.in-Err-Fault.field-0-is))
