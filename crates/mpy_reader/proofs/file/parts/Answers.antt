use Rattle.std.proofs.Common.{arith}
use Rattle.std.proofs.lemmas.Result.{err_from_is_err_and}
use Rattle.mpy_reader.specs.Reading.{goes_on, parts}
use Rattle.mpy_reader.proofs.Steps.{exit, onward, onward_judged, unjudged}
use Rattle.mpy_reader.proofs.Files.{all_parts, is_module}
use Rattle.mpy_reader.proofs.file.parts.Goals as goal

pub returns-in_err-bits : goal.returns-in_err-bits
unfolding parts
returns-in_err-bits c =
    let p = err_from_is_err_and c.from_residual.result c.from_residual.ensures.1 in
    exit _ _ _ _ _ _ p.1 p.2 c.in_err-bits.ensures

pub returns-in_err-qstr_count : goal.returns-in_err-qstr_count
unfolding parts
returns-in_err-qstr_count c =
    let p = err_from_is_err_and c.from_residual-in_err-qstr_count.result c.from_residual-in_err-qstr_count.ensures.1 in
    onward _ _ _ _ (c.in_ok-bits.bits, c.in_ok-bits.rest.now) c.in_ok-bits.ensures (exit _ _ _ _ _ _ p.1 p.2 c.in_err-qstr_count.ensures)

pub returns-in_err-object_count : goal.returns-in_err-object_count
unfolding parts
returns-in_err-object_count c =
    let p = err_from_is_err_and c.from_residual-in_err-object_count.result c.from_residual-in_err-object_count.ensures.1 in
    onward _ _ _ _ (c.in_ok-bits.bits, c.in_ok-bits.rest.now) c.in_ok-bits.ensures
    (onward _ _ _ _ (c.in_ok-qstr_count.qstr_count, c.in_ok-qstr_count.rest.now) c.in_ok-qstr_count.ensures (exit _ _ _ _ _ _ p.1 p.2 c.in_err-object_count.ensures))

pub returns-then-qstr_count-eq0 : goal.returns-then-qstr_count-eq0
unfolding parts
returns-then-qstr_count-eq0 c =
    goes_on (c.in_ok-bits.bits, c.in_ok-bits.rest.now) c.in_ok-bits.ensures
    (goes_on (c.in_ok-qstr_count.qstr_count, c.in_ok-qstr_count.rest.now) c.in_ok-qstr_count.ensures
    (goes_on (c.in_ok-object_count.object_count, c.in_ok-object_count.rest.now) c.in_ok-object_count.ensures (unjudged (λ some. omega arith))))

pub returns-in_err-qstrs : goal.returns-in_err-qstrs
unfolding parts
returns-in_err-qstrs c =
    let p = err_from_is_err_and c.from_residual-in_err-qstrs.result c.from_residual-in_err-qstrs.ensures.1 in
    onward _ _ _ _ (c.in_ok-bits.bits, c.in_ok-bits.rest.now) c.in_ok-bits.ensures
    (onward _ _ _ _ (c.in_ok-qstr_count.qstr_count, c.in_ok-qstr_count.rest.now) c.in_ok-qstr_count.ensures
    (onward _ _ _ _ (c.in_ok-object_count.object_count, c.in_ok-object_count.rest.now) c.in_ok-object_count.ensures
    (onward_judged _ _ _ _ _ (omega arith) (exit _ _ _ _ _ _ p.1 p.2 c.in_err-qstrs.ensures))))

pub returns-in_err-objects : goal.returns-in_err-objects
unfolding parts
returns-in_err-objects c =
    let p = err_from_is_err_and c.from_residual-in_err-objects.result c.from_residual-in_err-objects.ensures.1 in
    onward _ _ _ _ (c.in_ok-bits.bits, c.in_ok-bits.rest.now) c.in_ok-bits.ensures
    (onward _ _ _ _ (c.in_ok-qstr_count.qstr_count, c.in_ok-qstr_count.rest.now) c.in_ok-qstr_count.ensures
    (onward _ _ _ _ (c.in_ok-object_count.object_count, c.in_ok-object_count.rest.now) c.in_ok-object_count.ensures
    (onward_judged _ _ _ _ _ (omega arith)
    (onward _ _ _ _ (c.in_ok-qstrs.qstrs, c.in_ok-qstrs.rest.now) c.in_ok-qstrs.ensures (exit _ _ _ _ _ _ p.1 p.2 c.in_err-objects.ensures)))))

pub returns-in_err-code : goal.returns-in_err-code
unfolding parts
returns-in_err-code c =
    let p = err_from_is_err_and c.from_residual-in_err-code.result c.from_residual-in_err-code.ensures.1 in
    onward _ _ _ _ (c.in_ok-bits.bits, c.in_ok-bits.rest.now) c.in_ok-bits.ensures
    (onward _ _ _ _ (c.in_ok-qstr_count.qstr_count, c.in_ok-qstr_count.rest.now) c.in_ok-qstr_count.ensures
    (onward _ _ _ _ (c.in_ok-object_count.object_count, c.in_ok-object_count.rest.now) c.in_ok-object_count.ensures
    (onward_judged _ _ _ _ _ (omega arith)
    (onward _ _ _ _ (c.in_ok-qstrs.qstrs, c.in_ok-qstrs.rest.now) c.in_ok-qstrs.ensures
    (onward _ _ _ _ (c.in_ok-objects.objects, c.in_ok-objects.rest.now) c.in_ok-objects.ensures (exit _ _ _ _ _ _ p.1 p.2 c.in_err-code.ensures))))))

pub new-requires : goal.new-requires
new-requires c =
    is_module c.args.bytes.now c.in_ok-code.rest.now _
    (all_parts _ _ _ _ _ _ _ _ _ _ _ _ _ c.in_ok-bits.ensures c.in_ok-qstr_count.ensures c.in_ok-object_count.ensures (omega arith) c.in_ok-qstrs.ensures c.in_ok-objects.ensures c.in_ok-code.ensures)

pub returns : goal.returns
returns c =
    rw c.new.ensures
    (all_parts _ _ _ _ _ _ _ _ _ _ _ _ _ c.in_ok-bits.ensures c.in_ok-qstr_count.ensures c.in_ok-object_count.ensures (omega arith) c.in_ok-qstrs.ensures c.in_ok-objects.ensures c.in_ok-code.ensures)
