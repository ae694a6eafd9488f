use Rattle.std.proofs.Common.{◌≡◌, Err, sym, ap, ◌∙◌, arith, ◌*ℤ◌, Ok}
use Rattle.std.proofs.lemmas.Result.{err_from_is_err_and}
use Rattle.py_values.specs.Small.{checked}
use Rattle.py_values.specs.Power.{power}
use Rattle.py_values.proofs.Range.{number_of_ok, fault_of_err}
use Rattle.py_values.proofs.Powers.{power_none, power_more, stays_big}
use Rattle.py_values.proofs.power.growing_power.Goals as goal

pub loop-init : goal.loop-init
loop-init c = c.checked-product.ensures ∙ ap checked (sym (power_none c.args.base))

pub returns-in_err-product : goal.returns-in_err-product
returns-in_err-product c =
    let p = err_from_is_err_and c.from_residual.result c.from_residual.ensures.1 in
    let now = power c.args.base c.loop.counter in
    let fault = c.in_err-product.field-0.0 in
    let err : checked now ≡ Err fault = sym c.loop.invariant ∙ c.in_err-product.was in
    let overflow = ap Err (fault_of_err now fault err) in
    rw (p.1, p.2) (overflow ∙ sym (stays_big c.args.base c.loop.counter c.args.exponent c.requires (err ∙ overflow) (omega arith)))

pub loop-preserved : goal.loop-preserved
loop-preserved c =
    let i = c.loop.counter in
    let base = c.args.base in
    let ok : checked (power base i) ≡ Ok c.in_ok-product.field-0 = sym c.loop.invariant ∙ c.in_ok-product.was in
    c.mul-product.ensures ∙ ap checked (ap (λ z. base *ℤ z) (sym (number_of_ok (power base i) c.in_ok-product.field-0 ok)) ∙ sym (power_more base i))
