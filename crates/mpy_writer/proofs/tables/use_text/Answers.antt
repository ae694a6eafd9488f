use Rattle.std.proofs.Common.{ℕ, Result, Err, refl, ap}
use Rattle.mpy_base.specs.declared.refused.Refused.{Refused}
use Rattle.mpy_tree.specs.qstr_pool.declared.pool.Full.{Full}
use Rattle.mpy_writer.proofs.Uses.{no_room}
use Rattle.mpy_writer.proofs.tables.use_text.Goals as goal

pub returns-in-Err-Fault-clause-fault : goal.returns-in-Err-Fault-clause-fault
returns-in-Err-Fault-clause-fault c =
    let failed = λ (e : Refused Full). let r : Result ℕ (Refused Full) = Err e in r in
    (refl, no_room c.args.pool.now c.args.text.now (c.in-Err-Fault.ensures.full.0 (ap failed c.in-Err-Fault.field-0-is)))
