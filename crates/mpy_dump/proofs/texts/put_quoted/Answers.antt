use Rattle.std.proofs.Common.{[], ◌∷◌, ◌++◌}
use Rattle.mpy_dump.specs.Texts.{inside}
use Rattle.mpy_dump.proofs.Putting.{begin, step, stop, last}
use Rattle.mpy_dump.proofs.texts.put_quoted.Goals as goal

pub returns-in_err-put : goal.returns-in_err-put
returns-in_err-put g c =
    let quote = c.args.quote in
    stop (inside quote c.args.text.now ++ quote ∷ []) c.from_residual.result c.from_residual.ensures.0 (begin _ _ _ _) c.in_err-put.ensures

pub returns-in_err-put_inside : goal.returns-in_err-put_inside
returns-in_err-put_inside g c =
    let quote = c.args.quote in
    stop (quote ∷ []) c.from_residual-in_err-put_inside.result c.from_residual-in_err-put_inside.ensures.0
    (step (inside quote c.args.text.now ++ quote ∷ []) (begin _ _ _ _) c.in_ok-put.ensures) c.in_err-put_inside.ensures

pub returns : goal.returns
returns g c =
    let quote = c.args.quote in
    last c.put-2.result (step (quote ∷ []) (step (inside quote c.args.text.now ++ quote ∷ []) (begin _ _ _ _) c.in_ok-put.ensures) c.in_ok-put_inside.ensures) c.put-2.ensures
