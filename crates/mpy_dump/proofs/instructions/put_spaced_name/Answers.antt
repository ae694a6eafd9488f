use Rattle.mpy_dump.specs.Instructions.{name_text_at}
use Rattle.mpy_dump.proofs.Putting.{begin, step, stop, last}
use Rattle.mpy_dump.proofs.instructions.put_spaced_name.Goals as goal

pub returns-in_err-put : goal.returns-in_err-put
returns-in_err-put g c =
    stop (name_text_at c.args.module.now c.args.n) c.from_residual.result c.from_residual.ensures.0 (begin _ _ _ _) c.in_err-put.ensures

pub returns : goal.returns
returns g c =
    last c.put_name_at.result (step (name_text_at c.args.module.now c.args.n) (begin _ _ _ _) c.in_ok-put.ensures) c.put_name_at.ensures
