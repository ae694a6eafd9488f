use Rattle.std.proofs.Common.{refl, arith}
use Rattle.std.proofs.lemmas.Result.{err_from_is_err_and}
use Rattle.mpy_reader.specs.Reading.{goes_on, own}
use Rattle.mpy_reader.proofs.Steps.{exit, onward, onward_judged, judged, unjudged}
use Rattle.mpy_reader.proofs.code.own.Goals as goal

pub returns-in_err-header : goal.returns-in_err-header
unfolding own
returns-in_err-header c =
    let p = err_from_is_err_and c.from_residual.result c.from_residual.ensures.1 in
    exit _ _ _ _ _ _ p.1 p.2 c.in_err-header.ensures

pub returns-then-len-gt-MAX_CODE_BYTES : goal.returns-then-len-gt-MAX_CODE_BYTES
unfolding own
returns-then-len-gt-MAX_CODE_BYTES c = goes_on (c.in_ok-header.header, c.in_ok-header.rest.now) c.in_ok-header.ensures (unjudged (λ le. omega arith))

pub returns-in_err-own : goal.returns-in_err-own
unfolding own
returns-in_err-own c =
    let p = err_from_is_err_and c.from_residual-in_err-own.result c.from_residual-in_err-own.ensures.1 in
    onward _ _ _ _ (c.in_ok-header.header, c.in_ok-header.rest.now) c.in_ok-header.ensures
    (onward_judged _ _ _ _ _ (omega arith) (exit _ _ _ _ _ _ p.1 p.2 c.in_err-own.ensures))

pub returns-then-header-ne0 : goal.returns-then-header-ne0
unfolding own
returns-then-header-ne0 c =
    goes_on (c.in_ok-header.header, c.in_ok-header.rest.now) c.in_ok-header.ensures
    (judged (omega arith) (goes_on (c.in_ok-own.own.now, c.in_ok-own.rest.now) c.in_ok-own.ensures (unjudged c.if-header-ne0.true)))

pub returns-in_err-own_code : goal.returns-in_err-own_code
unfolding own
returns-in_err-own_code c =
    let p = err_from_is_err_and c.from_residual-in_err-own_code.result c.from_residual-in_err-own_code.ensures.1 in
    onward _ _ _ _ (c.in_ok-header.header, c.in_ok-header.rest.now) c.in_ok-header.ensures
    (onward_judged _ _ _ _ _ (omega arith) (onward _ _ _ _ (c.in_ok-own.own.now, c.in_ok-own.rest.now) c.in_ok-own.ensures
    (onward_judged _ _ _ _ _ c.if-header-ne0.false (exit _ _ _ _ _ _ p.1 p.2 c.in_err-own_code.ensures))))

pub returns : goal.returns
unfolding own
returns c =
    goes_on (c.in_ok-header.header, c.in_ok-header.rest.now) c.in_ok-header.ensures
    (judged (omega arith) (goes_on (c.in_ok-own.own.now, c.in_ok-own.rest.now) c.in_ok-own.ensures
    (judged c.if-header-ne0.false (goes_on tt c.in_ok-own_code.ensures refl))))
