use Rattle.std.proofs.Common.{ℕ, Result, Err, refl, ap, ◌∙◌}
use Rattle.mpy_base.specs.declared.refused.Refused.{Refused}
use Rattle.qstr_pool.specs.declared.pool.Full.{Full}
use Rattle.image_open.proofs.bc_library_lemmas.Pools.{overflows, with_own}
use Rattle.image_freeze.proofs.texts.use_own.Goals as goal

pub returns-in-Ok-clause-ok : goal.returns-in-Ok-clause-ok
returns-in-Ok-clause-ok c = c.in-Ok.ensures.texts ∙ with_own c.args.pool.now c.args.text.now c.requires

pub returns-in-Err-Fault-clause-fault : goal.returns-in-Err-Fault-clause-fault
returns-in-Err-Fault-clause-fault c =
    let failed = λ (e : Refused Full). let r : Result ℕ (Refused Full) = Err e in r in
    let full = c.in-Err-Fault.ensures.full.0 (ap failed c.in-Err-Fault.field-0-is) in
    (refl, overflows c.args.pool.now c.args.text.now c.requires full.0 full.1)
