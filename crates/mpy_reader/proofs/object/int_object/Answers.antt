use Rattle.std.proofs.Common.{refl}
use Rattle.std.proofs.lemmas.Result.{err_from_is_err_and}
use Rattle.mpy_reader.specs.declared.fault.FileFault.TheVariants.{BadObject}
use Rattle.mpy_reader.specs.Reading.{goes_on, int}
use Rattle.mpy_tree.specs.File.{tag_int}
use Rattle.mpy_reader.proofs.Steps.{exit, onward, refused}
use Rattle.mpy_reader.proofs.Numerals.{kept}
use Rattle.mpy_reader.proofs.object.int_object.Goals as goal

pub returns-in_err-len : goal.returns-in_err-len
unfolding int
returns-in_err-len c =
    let p = err_from_is_err_and c.from_residual.result c.from_residual.ensures.1 in
    exit _ _ _ _ _ _ p.1 p.2 c.in_err-len.ensures

pub returns-in_err-digits : goal.returns-in_err-digits
unfolding int
returns-in_err-digits c =
    let p = err_from_is_err_and c.from_residual-in_err-digits.result c.from_residual-in_err-digits.ensures.1 in
    onward _ _ _ _ (c.in_ok-len.len, c.in_ok-len.rest.now) c.in_ok-len.ensures (exit _ _ _ _ _ _ p.1 p.2 c.in_err-digits.ensures)

pub returns-in_default : goal.returns-in_default
unfolding int
returns-in_default c =
    goes_on (c.in_ok-len.len, c.in_ok-len.rest.now) c.in_ok-len.ensures
    (goes_on (c.in_ok-digits.digits.now, c.in_ok-digits.rest.now) c.in_ok-digits.ensures (refused (BadObject tag_int) (refl, c.in_default.ensures)))

pub returns : goal.returns
unfolding int
returns c =
    rw (kept c.in-Some.n c.in-Some.ensures.1)
    (goes_on (c.in_ok-len.len, c.in_ok-len.rest.now) c.in_ok-len.ensures
    (goes_on (c.in_ok-digits.digits.now, c.in_ok-digits.rest.now) c.in_ok-digits.ensures (goes_on c.in-Some.n c.in-Some.ensures refl)))
