use Rattle.std.proofs.Common.{sym, ap₂, ◌∙◌, arith}
use Rattle.std.specs.Ordering.{int_eq}
use Rattle.prim_faults.proofs.arena_objects_lemmas.RangeNumbers.{len_same, number_same, small_same}
use Rattle.prim_comparisons.proofs.RangePlaces.{decided, is_elsewhere}
use Rattle.prim_comparisons.proofs.ranges.is_in_range.Goals as goal

pub returns-then-place-count : goal.returns-then-place-count
returns-then-place-count c =
    let a = c.args in
    let r = c.requires in
    let up = c.range_count-place.ensures ∙ len_same a.start a.z a.step r.start r.number r.step in
    let count = c.range_count-count.ensures ∙ len_same a.start a.stop a.step r.start r.stop r.step in
    let past = c.if-place-count.true in
    sym (is_elsewhere a.z a.start a.stop a.step r.nonzero (λ lt same. absurd (omega (arith, up, count, past, lt))))

pub returns : goal.returns
returns c =
    let a = c.args in
    let r = c.requires in
    let up = c.range_count-place.ensures ∙ len_same a.start a.z a.step r.start r.number r.step in
    let count = c.range_count-count.ensures ∙ len_same a.start a.stop a.step r.start r.stop r.step in
    let within = c.if-place-count.false in
    let number = c.range_number.ensures in
    decided a.z a.start a.stop a.step c.range_count-place.result _ r.nonzero up (omega (arith, up, count, within))
    (c.is_one_number.ensures ∙ ap₂ int_eq (sym (number_same a.start a.step c.range_number.result c.range_count-place.result r.start r.step number.small number.number)) (small_same a.z r.number))
