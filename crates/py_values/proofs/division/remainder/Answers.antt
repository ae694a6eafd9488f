use Rattle.std.proofs.Common.{ap₂, ◌∙◌}
use Rattle.std.specs.Int.{int_rem_euclid}
use Rattle.py_values.proofs.Quotients.{negated, small_negated, not_above, negative_remainder}
use Rattle.py_values.proofs.division.remainder.Goals as goal

pub returns-else-b-gt0 : goal.returns-else-b-gt0
returns-else-b-gt0 c =
    let a = c.args.a in
    let b = c.args.b in
    let r = c.rem_euclid-else-b-gt0.result in
    let e = c.rem_euclid-else-b-gt0.ensures in
    let value = e.value ∙ ap₂ int_rem_euclid (small_negated a c.requires.a_small) (small_negated b c.requires.b_small) in
    negated r (record { sfits = c.rem_euclid-else-b-gt0.type_inv }) e.lower_bound ∙ negative_remainder a b r (not_above b c.ranges.b c.if-b-gt0.false) c.requires.nonzero value
