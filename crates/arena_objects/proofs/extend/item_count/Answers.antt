use Rattle.std.proofs.Common.{List, length, sym, ◌∙◌, ap}
use Rattle.arena_heap.specs.declared.value.Value.{Value}
use Rattle.arena_objects.proofs.Gifts.{count_numbers, range_given}
use Rattle.arena_objects.proofs.RangeNumbers.{len_same}
use Rattle.arena_objects.proofs.extend.item_count.Goals as goal

pub returns-in-Range : goal.returns-in-Range
returns-in-Range g c =
    let p = c.range_parts-start.result in
    let e = c.range_parts-start.ensures in
    c.range_count.ensures ∙ (len_same p.0 p.1 p.2 e.start e.stop e.step ∙ (sym (count_numbers p.0 p.1 p.2)
    ∙ ap (λ (xs : List Value). length xs) (sym (range_given (g.C.Constants.items_of c.args.consts.now) c.args.arena.now c.args.from c.in-Range.r p.0 p.1 p.2 c.in-Range.is e.parts))))
