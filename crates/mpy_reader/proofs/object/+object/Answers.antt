use Rattle.std.proofs.Common.{◌-◌, refl, arith}
use Rattle.std.proofs.lemmas.Result.{err_from_is_err_and}
use Rattle.mpy_reader.specs.Reading.{goes_on, tuple, object_by, object}
use Rattle.mpy_reader.proofs.Steps.{exit, onward}
use Rattle.mpy_reader.proofs.Many.{starts, goes_further, ended, exit_further}
use Rattle.mpy_reader.proofs.Objects.{tag_and_rest, tagged, tagged_whole, no_level, one_level, other_tag}
use Rattle.mpy_reader.proofs.object.+object.Goals as goal

pub items-returns-in_err-item : goal.items-returns-in_err-item
items-returns-in_err-item t c =
    let p = err_from_is_err_and c.from_residual.result c.from_residual.ensures.1 in
    exit_further (object c.args.levels) _ _ _ _ _ _ _ _ _ p.1 p.2 c.loop-test.true c.in_err-item.ensures c.loop.invariant

pub items-loop-preserved : goal.items-loop-preserved
items-loop-preserved t c = rw c.in_ok-push.ensures.ok (goes_further (object c.args.levels) _ _ _ _ _ _ _ c.loop-test.true c.in_ok-item.ensures c.loop.invariant)

pub items-loop-init : goal.items-loop-init
items-loop-init t c = rw c.new-items.ensures (starts (object c.args.levels) _ _ _ (omega arith))

pub items-returns : goal.items-returns
items-returns t c = ended (object c.args.levels) _ _ _ _ _ c.loop-test.false c.loop.invariant

pub tuple-returns-in_err-count : goal.tuple-returns-in_err-count
unfolding tuple
tuple-returns-in_err-count t c =
    let p = err_from_is_err_and c.from_residual.result c.from_residual.ensures.1 in
    exit _ _ _ _ _ _ p.1 p.2 c.in_err-count.ensures

pub tuple-returns-in_err-items : goal.tuple-returns-in_err-items
unfolding tuple
tuple-returns-in_err-items t c =
    let p = err_from_is_err_and c.from_residual-in_err-items.result c.from_residual-in_err-items.ensures.1 in
    onward _ _ _ _ (c.in_ok-count.count, c.in_ok-count.rest.now) c.in_ok-count.ensures (exit _ _ _ _ _ _ p.1 p.2 c.in_err-items.ensures)

pub tuple-returns : goal.tuple-returns
unfolding tuple
tuple-returns t c =
    goes_on (c.in_ok-count.count, c.in_ok-count.rest.now) c.in_ok-count.ensures
    (goes_on (c.in_ok-items.items, c.in_ok-items.rest.now) c.in_ok-items.ensures refl)

pub object-returns-in_err-tag : goal.object-returns-in_err-tag
object-returns-in_err-tag t c =
    let p = err_from_is_err_and c.from_residual.result c.from_residual.ensures.1 in
    tag_and_rest _ _ _ _ (exit _ _ _ _ _ _ p.1 p.2 c.in_err-tag.ensures)

pub object-returns-in-1 : goal.object-returns-in-1
unfolding object_by
object-returns-in-1 t c = tagged_whole _ _ _ 1 _ _ c.in_ok-tag.ensures c.in-1.is refl

pub object-returns-in-2 : goal.object-returns-in-2
unfolding object_by
object-returns-in-2 t c = tagged_whole _ _ _ 2 _ _ c.in_ok-tag.ensures c.in-2.is refl

pub object-returns-in-3 : goal.object-returns-in-3
unfolding object_by
object-returns-in-3 t c = tagged_whole _ _ _ 3 _ _ c.in_ok-tag.ensures c.in-3.is refl

pub object-returns-in-5 : goal.object-returns-in-5
unfolding object_by
object-returns-in-5 t c = tagged _ _ _ _ _ 5 _ c.in_ok-tag.ensures c.in-5.is c.str_object.ensures

pub object-returns-in-7 : goal.object-returns-in-7
unfolding object_by
object-returns-in-7 t c = tagged _ _ _ _ _ 7 _ c.in_ok-tag.ensures c.in-7.is c.int_object.ensures

pub object-returns-in-10 : goal.object-returns-in-10
object-returns-in-10 t c = no_level _ _ _ _ c.if-levels-eq0.true c.in_ok-tag.ensures c.in-10.is

pub object-returns-in-10-2 : goal.object-returns-in-10-2
object-returns-in-10-2 t c = one_level _ (c.args.levels - 1) _ _ _ _ _ (omega arith) c.in_ok-tag.ensures c.in-10.is c.tuple.ensures

pub object-returns-in_default : goal.object-returns-in_default
object-returns-in_default t c =
    other_tag _ _ _ _ c.in_ok-tag.ensures (λ e. omega arith) (λ e. omega arith) (λ e. omega arith) (λ e. omega arith) (λ e. omega arith) (λ e. omega arith)
