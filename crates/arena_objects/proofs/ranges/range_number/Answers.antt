use Rattle.std.proofs.Common.{◌*◌, ℤ, ◌+ℤ◌, w32, arith, sym, ◌∙◌, ap, subst}
use Rattle.std.proofs.lemmas.Int.{ints, to_z-of_z}
use Rattle.std.specs.Int.RustNames.{unsigned_abs}
use Rattle.arena_heap.specs.Values.{IsSmall}
use Rattle.arena_objects.proofs.RangeNumbers.{way, any_small, fits_up, fits_down, is_up, is_down, number_up, small_up, number_down, small_down}
use Rattle.arena_objects.proofs.ranges.range_number.Goals as goal

pub overflow_mul-way : goal.overflow_mul-way
overflow_mul-way c =
    let size = c.unsigned_abs.ensures.value ∙ ap unsigned_abs (to_z-of_z w32 c.args.step c.ranges.step) in
    let w = way c.args.start c.args.stop c.args.step c.args.k c.unsigned_abs.result c.requires.nonzero size c.requires.within in
    let small = any_small c.args.start c.args.stop c.args.step c.args.k c.unsigned_abs.result c.requires.start c.requires.stop w in
    record { fits = omega (arith, small) }

pub overflow_cast-way : goal.overflow_cast-way
overflow_cast-way c =
    let size = c.unsigned_abs.ensures.value ∙ ap unsigned_abs (to_z-of_z w32 c.args.step c.ranges.step) in
    let w = way c.args.start c.args.stop c.args.step c.args.k c.unsigned_abs.result c.requires.nonzero size c.requires.within in
    let small = any_small c.args.start c.args.stop c.args.step c.args.k c.unsigned_abs.result c.requires.start c.requires.stop w in
    omega (arith, ints, small)

pub overflow_add-result : goal.overflow_add-result
overflow_add-result c =
    let size = c.unsigned_abs.ensures.value ∙ ap unsigned_abs (to_z-of_z w32 c.args.step c.ranges.step) in
    let w = way c.args.start c.args.stop c.args.step c.args.k c.unsigned_abs.result c.requires.nonzero size c.requires.within in
    let u = w.up (is_up c.args.step c.ranges.step c.if-step-gt0.true) in
    fits_up c.args.start c.args.stop (c.args.k * c.unsigned_abs.result) c.requires.start c.requires.stop u.0

pub overflow_sub-result : goal.overflow_sub-result
overflow_sub-result c =
    let size = c.unsigned_abs.ensures.value ∙ ap unsigned_abs (to_z-of_z w32 c.args.step c.ranges.step) in
    let w = way c.args.start c.args.stop c.args.step c.args.k c.unsigned_abs.result c.requires.nonzero size c.requires.within in
    let u = w.down (is_down c.args.step c.ranges.step c.if-step-gt0.false) in
    fits_down c.args.start c.args.stop (c.args.k * c.unsigned_abs.result) c.requires.start c.requires.stop u.0

pub returns-then-step-gt0-clause-number : goal.returns-then-step-gt0-clause-number
returns-then-step-gt0-clause-number c =
    let size = c.unsigned_abs.ensures.value ∙ ap unsigned_abs (to_z-of_z w32 c.args.step c.ranges.step) in
    let w = way c.args.start c.args.stop c.args.step c.args.k c.unsigned_abs.result c.requires.nonzero size c.requires.within in
    let u = w.up (is_up c.args.step c.ranges.step c.if-step-gt0.true) in
    number_up c.args.start c.args.stop (c.args.k * c.unsigned_abs.result) c.requires.start c.requires.stop u.0 ∙ ap (λ (z : ℤ). c.args.start +ℤ z) u.1

pub returns-then-step-gt0-clause-small : goal.returns-then-step-gt0-clause-small
returns-then-step-gt0-clause-small c =
    let size = c.unsigned_abs.ensures.value ∙ ap unsigned_abs (to_z-of_z w32 c.args.step c.ranges.step) in
    let w = way c.args.start c.args.stop c.args.step c.args.k c.unsigned_abs.result c.requires.nonzero size c.requires.within in
    let u = w.up (is_up c.args.step c.ranges.step c.if-step-gt0.true) in
    let n = c.args.k * c.unsigned_abs.result in
    subst IsSmall (sym (number_up c.args.start c.args.stop n c.requires.start c.requires.stop u.0)) (small_up c.args.start c.args.stop n c.requires.start c.requires.stop u.0)

pub returns-else-step-gt0-clause-number : goal.returns-else-step-gt0-clause-number
returns-else-step-gt0-clause-number c =
    let size = c.unsigned_abs.ensures.value ∙ ap unsigned_abs (to_z-of_z w32 c.args.step c.ranges.step) in
    let w = way c.args.start c.args.stop c.args.step c.args.k c.unsigned_abs.result c.requires.nonzero size c.requires.within in
    let u = w.down (is_down c.args.step c.ranges.step c.if-step-gt0.false) in
    number_down c.args.start c.args.stop (c.args.k * c.unsigned_abs.result) c.requires.start c.requires.stop u.0 ∙ ap (λ (z : ℤ). c.args.start +ℤ z) u.1

pub returns-else-step-gt0-clause-small : goal.returns-else-step-gt0-clause-small
returns-else-step-gt0-clause-small c =
    let size = c.unsigned_abs.ensures.value ∙ ap unsigned_abs (to_z-of_z w32 c.args.step c.ranges.step) in
    let w = way c.args.start c.args.stop c.args.step c.args.k c.unsigned_abs.result c.requires.nonzero size c.requires.within in
    let u = w.down (is_down c.args.step c.ranges.step c.if-step-gt0.false) in
    let n = c.args.k * c.unsigned_abs.result in
    subst IsSmall (sym (number_down c.args.start c.args.stop n c.requires.start c.requires.stop u.0)) (small_down c.args.start c.args.stop n c.requires.start c.requires.stop u.0)
