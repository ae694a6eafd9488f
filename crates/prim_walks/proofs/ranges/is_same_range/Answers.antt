use Rattle.py_primitives.specs.py_values.Shown.{is_same_range}
use Rattle.prim_walks.proofs.RangeTests.{one_range, same_counts, other_counts}
use Rattle.prim_walks.proofs.ranges.is_same_range.Goals as goal

pub returns-then-count-other : goal.returns-then-count-other
returns-then-count-other c =
    let a = c.args in
    let r = c.requires in
    same_counts c.range_count-count.result c.range_count-other.result c.has_same_numbers-has_numbers.result (is_same_range a.start a.stop a.step a.first a.last a.way) c.if-count-other.true
    (one_range a.start a.stop a.step a.first a.last a.way c.range_count-count.result c.range_count-other.result c.is_one_number.result c.is_one_number-2.result c.has_same_numbers-has_numbers.result
    r.start r.stop r.step r.first r.last r.way c.range_count-count.ensures c.range_count-other.ensures c.is_one_number.ensures c.is_one_number-2.ensures c.has_same_numbers-has_numbers.ensures)

pub returns-else-count-other : goal.returns-else-count-other
returns-else-count-other c =
    let a = c.args in
    let r = c.requires in
    other_counts c.range_count-count.result c.range_count-other.result c.has_same_numbers-has_numbers.result (is_same_range a.start a.stop a.step a.first a.last a.way) c.if-count-other.false
    (one_range a.start a.stop a.step a.first a.last a.way c.range_count-count.result c.range_count-other.result c.is_one_number.result c.is_one_number-2.result c.has_same_numbers-has_numbers.result
    r.start r.stop r.step r.first r.last r.way c.range_count-count.ensures c.range_count-other.ensures c.is_one_number.ensures c.is_one_number-2.ensures c.has_same_numbers-has_numbers.ensures)
