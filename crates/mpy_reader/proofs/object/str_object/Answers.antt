use Rattle.std.proofs.Common.{refl}
use Rattle.std.proofs.lemmas.Result.{err_from_is_err_and}
use Rattle.mpy_reader.specs.Reading.{goes_on, str}
use Rattle.mpy_reader.proofs.Steps.{exit, onward}
use Rattle.mpy_reader.proofs.object.str_object.Goals as goal

pub returns-in_err-len : goal.returns-in_err-len
unfolding str
returns-in_err-len c =
    let p = err_from_is_err_and c.from_residual.result c.from_residual.ensures.1 in
    exit _ _ _ _ _ _ p.1 p.2 c.in_err-len.ensures

pub returns-in_err-own : goal.returns-in_err-own
unfolding str
returns-in_err-own c =
    let p = err_from_is_err_and c.from_residual-in_err-own.result c.from_residual-in_err-own.ensures.1 in
    onward _ _ _ _ (c.in_ok-len.len, c.in_ok-len.rest.now) c.in_ok-len.ensures (exit _ _ _ _ _ _ p.1 p.2 c.in_err-own.ensures)

pub returns : goal.returns
unfolding str
returns c =
    goes_on (c.in_ok-len.len, c.in_ok-len.rest.now) c.in_ok-len.ensures
    (goes_on (c.in_ok-own.own, c.in_ok-own.rest.now) c.in_ok-own.ensures refl)
