use Rattle.std.proofs.Common.{arith}
use Rattle.std.proofs.lemmas.Result.{err_from_is_err_and}
use Rattle.mpy_reader.specs.Reading.{goes_on, own_code}
use Rattle.mpy_reader.proofs.Steps.{exit, onward, onward_judged, unjudged}
use Rattle.mpy_reader.proofs.own.own_code.Goals as goal

pub returns-in_err-numbers : goal.returns-in_err-numbers
unfolding own_code
returns-in_err-numbers c =
    let p = err_from_is_err_and c.from_residual.result c.from_residual.ensures.1 in
    exit _ _ _ _ _ _ p.1 p.2 c.in_err-numbers.ensures

pub returns-then-numbers : goal.returns-then-numbers
unfolding own_code
returns-then-numbers c = goes_on (c.in_ok-numbers.numbers, c.in_ok-numbers.rest.now) c.in_ok-numbers.ensures (unjudged (λ le. omega arith))

pub returns-in_err-info : goal.returns-in_err-info
unfolding own_code
returns-in_err-info c =
    let p = err_from_is_err_and c.from_residual-in_err-info.result c.from_residual-in_err-info.ensures.1 in
    onward _ _ _ _ (c.in_ok-numbers.numbers, c.in_ok-numbers.rest.now) c.in_ok-numbers.ensures
    (onward_judged _ _ _ _ _ (omega arith) (exit _ _ _ _ _ _ p.1 p.2 c.in_err-info.ensures))

pub returns-in_err-names : goal.returns-in_err-names
unfolding own_code
returns-in_err-names c =
    let p = err_from_is_err_and c.from_residual-in_err-names.result c.from_residual-in_err-names.ensures.1 in
    onward _ _ _ _ (c.in_ok-numbers.numbers, c.in_ok-numbers.rest.now) c.in_ok-numbers.ensures
    (onward_judged _ _ _ _ _ (omega arith) (onward _ _ _ _ (c.in_ok-info.info.now, c.in_ok-info.instrs.now) c.in_ok-info.ensures
    (exit _ _ _ _ _ _ p.1 p.2 c.in_err-names.ensures)))

pub returns : goal.returns
unfolding own_code
returns c =
    onward _ _ _ _ (c.in_ok-numbers.numbers, c.in_ok-numbers.rest.now) c.in_ok-numbers.ensures
    (onward_judged _ _ _ _ _ (omega arith) (onward _ _ _ _ (c.in_ok-info.info.now, c.in_ok-info.instrs.now) c.in_ok-info.ensures
    (onward _ _ _ _ c.in_ok-names.ensures.0 c.in_ok-names.ensures.1 c.instructions.ensures)))
