use Rattle.std.proofs.Common.{refl}
use Rattle.std.proofs.lemmas.Result.{err_from_is_err_and}
use Rattle.mpy_reader.specs.Reading.{goes_on, text}
use Rattle.mpy_reader.proofs.Steps.{exit, refused}
use Rattle.mpy_reader.proofs.field.text.Goals as goal

pub returns-in_err-whole : goal.returns-in_err-whole
unfolding text
returns-in_err-whole c =
    let p = err_from_is_err_and c.from_residual.result c.from_residual.ensures.1 in
    exit _ _ _ _ _ _ p.1 p.2 c.in_err-whole.ensures

pub returns-in_default : goal.returns-in_default
unfolding text
returns-in_default c = goes_on (c.in_ok-whole.whole.now, c.in_ok-whole.rest.now) c.in_ok-whole.ensures (refused c.args.fault (refl, c.in_default.ensures))

pub returns : goal.returns
unfolding text
returns c =
    rw c.in_ok-new.ensures
    (goes_on (c.in_ok-whole.whole.now, c.in_ok-whole.rest.now) c.in_ok-whole.ensures (goes_on c.in-Some.own.now c.in-Some.ensures refl))
