use Rattle.std.proofs.Common.{◌+◌, ◌++◌, drop, length, sym, ap, ◌∙◌, append_assoc}
use Rattle.mpy_dump.specs.Numbered.{numbered}
use Rattle.mpy_dump.specs.Objects.{object_text, gap, closing}
use Rattle.mpy_dump.proofs.Putting.{begin, step, stop, last, number, numbers_end, puts_is, rest_is}
use Rattle.mpy_dump.proofs.Tuples.{item_at, tuple_text, object_Tuple}
use Rattle.mpy_dump.proofs.objects.+objects.Goals as goal

pub put_object-returns-in-Tuple : goal.put_object-returns-in-Tuple
put_object-returns-in-Tuple g t c =
    puts_is (ap tuple_text c.as_slice.ensures ∙ (sym (object_Tuple c.in-Tuple.items) ∙ ap object_text (sym c.in-Tuple.is))) c.put_tuple.ensures

pub put_tuple-returns-in_err-put : goal.put_tuple-returns-in_err-put
put_tuple-returns-in_err-put g t c =
    let items = c.args.items.now in
    stop (numbered item_at 0 items ++ closing (length items)) c.from_residual.result c.from_residual.ensures.0 (begin _ _ _ _) c.in_err-put.ensures

pub put_tuple-returns-in_err-put-2 : goal.put_tuple-returns-in_err-put-2
put_tuple-returns-in_err-put-2 g t c =
    let items = c.args.items.now in
    let place = c.loop-place.place in
    let item = c.index-items-place.result in
    let rest = numbered item_at (place + 1) (drop (place + 1) items) ++ closing (length items) in
    let left = rest_is (append_assoc (gap place) (object_text item) rest) (number item_at items place item (closing (length items)) c.loop-place-test.true c.index-items-place.is c.loop-place.invariant) in
    stop (object_text item ++ rest) c.from_residual-in_err-put-2.result c.from_residual-in_err-put-2.ensures.0 left (puts_is c.gap.ensures c.in_err-put-2.ensures)

pub put_tuple-returns-in_err-put_object : goal.put_tuple-returns-in_err-put_object
put_tuple-returns-in_err-put_object g t c =
    let items = c.args.items.now in
    let place = c.loop-place.place in
    let item = c.index-items-place.result in
    let rest = numbered item_at (place + 1) (drop (place + 1) items) ++ closing (length items) in
    let left = rest_is (append_assoc (gap place) (object_text item) rest) (number item_at items place item (closing (length items)) c.loop-place-test.true c.index-items-place.is c.loop-place.invariant) in
    stop rest c.from_residual-in_err-put_object.result c.from_residual-in_err-put_object.ensures.0 (step (object_text item ++ rest) left (puts_is c.gap.ensures c.in_ok-put-2.ensures)) c.in_err-put_object.ensures

pub put_tuple-loop-place-preserved : goal.put_tuple-loop-place-preserved
put_tuple-loop-place-preserved g t c =
    let items = c.args.items.now in
    let place = c.loop-place.place in
    let item = c.index-items-place.result in
    let rest = numbered item_at (place + 1) (drop (place + 1) items) ++ closing (length items) in
    let left = rest_is (append_assoc (gap place) (object_text item) rest) (number item_at items place item (closing (length items)) c.loop-place-test.true c.index-items-place.is c.loop-place.invariant) in
    step rest (step (object_text item ++ rest) left (puts_is c.gap.ensures c.in_ok-put-2.ensures)) c.in_ok-put_object.ensures

pub put_tuple-returns : goal.put_tuple-returns
put_tuple-returns g t c =
    let items = c.args.items.now in
    last c.put-2.result (numbers_end item_at items c.loop-place.place (closing (length items)) c.loop-place-test.false c.loop-place.invariant) (puts_is c.closing.ensures c.put-2.ensures)
