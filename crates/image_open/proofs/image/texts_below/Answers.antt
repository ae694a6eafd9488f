use Rattle.std.proofs.Common.{ℕ, Err, ap, arith, Result}
use Rattle.mpy_base.specs.declared.refused.Refused.{Refused}
use Rattle.qstr_pool.specs.Pool.{Texts}
use Rattle.qstr_pool.specs.declared.pool.Full.{Full}
use Rattle.image_open.proofs.Below.{below_is, fine_pool}
use Rattle.image_open.proofs.image.texts_below.Goals as goal

pub returns-in-Ok-clause-pool : goal.returns-in-Ok-clause-pool
returns-in-Ok-clause-pool c = below_is c.in-Ok.pool c.args.below.now c.in-Ok.ensures.copied c.in-Ok.ensures.own

pub returns-in-Ok-clause-fine : goal.returns-in-Ok-clause-fine
returns-in-Ok-clause-fine c = fine_pool c.in-Ok.pool c.args.below.now c.in-Ok.ensures.copied c.in-Ok.ensures.own c.requires

pub returns-in-Ok-clause-proper : goal.returns-in-Ok-clause-proper
returns-in-Ok-clause-proper c = (c.in-Ok.ensures.own, c.pool_law.ensures.differ)

pub unreachable-requires : goal.unreachable-requires
unreachable-requires c =
    let failed = λ (e : Refused Full). let r : Result Texts (Refused Full) = Err e in r in
    let past = c.in-Err-Fault.ensures.full (ap failed c.in-Err-Fault.field-0-is) in
    let few = c.requires.few_texts in
    omega (arith, past, few)
