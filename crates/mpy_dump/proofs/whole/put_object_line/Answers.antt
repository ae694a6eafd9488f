use Rattle.std.proofs.Common.{◌++◌, codes}
use Rattle.mpy_dump.specs.Objects.{object_text}
use Rattle.mpy_dump.proofs.Putting.{begin, step, stop, last}
use Rattle.mpy_dump.proofs.whole.put_object_line.Goals as goal

pub returns-in_err-put_numbered : goal.returns-in_err-put_numbered
returns-in_err-put_numbered g c =
    stop (object_text c.args.object.now ++ codes "\n") c.from_residual.result c.from_residual.ensures.0 (begin _ _ _ _) c.in_err-put_numbered.ensures

pub returns-in_err-put_object : goal.returns-in_err-put_object
returns-in_err-put_object g c =
    stop (codes "\n") c.from_residual-in_err-put_object.result c.from_residual-in_err-put_object.ensures.0
    (step (object_text c.args.object.now ++ codes "\n") (begin _ _ _ _) c.in_ok-put_numbered.ensures) c.in_err-put_object.ensures

pub returns : goal.returns
returns g c =
    last c.put.result (step (codes "\n")
    (step (object_text c.args.object.now ++ codes "\n") (begin _ _ _ _) c.in_ok-put_numbered.ensures) c.in_ok-put_object.ensures) c.put.ensures
