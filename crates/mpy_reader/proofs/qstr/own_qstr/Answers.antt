use Rattle.std.proofs.Common.{refl}
use Rattle.std.proofs.lemmas.Result.{err_from_is_err_and}
use Rattle.mpy_reader.specs.Reading.{goes_on, own_qstr}
use Rattle.mpy_reader.proofs.Steps.{exit}
use Rattle.mpy_reader.proofs.qstr.own_qstr.Goals as goal

pub returns-in_err-own : goal.returns-in_err-own
unfolding own_qstr
returns-in_err-own c =
    let p = err_from_is_err_and c.from_residual.result c.from_residual.ensures.1 in
    exit _ _ _ _ _ _ p.1 p.2 c.in_err-own.ensures

pub returns : goal.returns
unfolding own_qstr
returns c = goes_on (c.in_ok-own.own, c.in_ok-own.rest.now) c.in_ok-own.ensures refl
