use Rattle.std.proofs.lemmas.Result.{err_from_is_err_and}
use Rattle.mpy_reader.specs.Body.{body}
use Rattle.mpy_reader.proofs.Steps.{exit, onward}
use Rattle.mpy_reader.proofs.Bodies.{all_body}
use Rattle.mpy_reader.proofs.body.read_body.Goals as goal

pub returns-in_err-object_count : goal.returns-in_err-object_count
unfolding body
returns-in_err-object_count c =
    let p = err_from_is_err_and c.from_residual.result c.from_residual.ensures.1 in
    exit _ _ _ _ _ _ p.1 p.2 c.in_err-object_count.ensures

pub returns-in_err-objects : goal.returns-in_err-objects
unfolding body
returns-in_err-objects c =
    let p = err_from_is_err_and c.from_residual-in_err-objects.result c.from_residual-in_err-objects.ensures.1 in
    onward _ _ _ _ (c.in_ok-object_count.object_count, c.in_ok-object_count.rest.now) c.in_ok-object_count.ensures (exit _ _ _ _ _ _ p.1 p.2 c.in_err-objects.ensures)

pub returns-in_err-code : goal.returns-in_err-code
unfolding body
returns-in_err-code c =
    let p = err_from_is_err_and c.from_residual-in_err-code.result c.from_residual-in_err-code.ensures.1 in
    onward _ _ _ _ (c.in_ok-object_count.object_count, c.in_ok-object_count.rest.now) c.in_ok-object_count.ensures
    (onward _ _ _ _ (c.in_ok-objects.objects, c.in_ok-objects.rest.now) c.in_ok-objects.ensures (exit _ _ _ _ _ _ p.1 p.2 c.in_err-code.ensures))

pub returns : goal.returns
returns c = all_body _ _ _ _ _ _ _ _ c.in_ok-object_count.ensures c.in_ok-objects.ensures c.in_ok-code.ensures
