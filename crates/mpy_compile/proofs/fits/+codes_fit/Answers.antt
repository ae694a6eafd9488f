use Rattle.std.proofs.Common.{◌-◌, All, refl, sym, ap, subst, ◌∙◌, arith}
use Rattle.std.specs.List.{list_all}
use Rattle.mpy_writer.specs.Writable.{IsShallow}
use Rattle.mpy_writer.proofs.Trees.{some_level, shallow_below}
use Rattle.mpy_compile.proofs.Rows.{all_fit, one_more, one_fails, fails_first, fails_inside, fits_all, whole_row}
use Rattle.mpy_compile.proofs.fits.+codes_fit.Goals as goal

pub returns-then-not-code_fits : goal.returns-then-not-code_fits
returns-then-not-code_fits t c = sym (fails_first c.args.levels c.args.code.now c.requires (sym c.code_fits.ensures ∙ c.if-not-code_fits.true))

pub overflow_sub-levels : goal.overflow_sub-levels
overflow_sub-levels t c = some_level c.args.levels c.args.code.now c.requires

pub codes_fit-requires : goal.codes_fit-requires
codes_fit-requires t c =
    let some = some_level c.args.levels c.args.code.now c.requires in
    let below = shallow_below c.args.levels (c.args.levels - 1) c.args.code.now c.requires refl in
    let kids = subst (All (IsShallow (c.args.levels - 1))) (sym c.as_slice-child-items.ensures) below in
    (omega (arith, some, c.decreases), subst (IsShallow (c.args.levels - 1)) (sym c.child-item.is) (kids c.loop-child.child-index c.child-item.result c.loop-child-test.true))

pub loop-child-preserved : goal.loop-child-preserved
loop-child-preserved t c =
    one_more (all_fit (c.args.levels - 1)) c.as_slice-child-items.result.now c.loop-child.child-index c.child-item.result c.loop-child-test.true c.child-item.is (sym c.codes_fit.ensures ∙ c.if-not-codes_fit.false) c.loop-child.invariant

pub returns-then-not-codes_fit : goal.returns-then-not-codes_fit
returns-then-not-codes_fit t c =
    let inside = one_fails (all_fit (c.args.levels - 1)) c.as_slice-child-items.result.now c.loop-child.child-index c.child-item.result c.loop-child-test.true c.child-item.is (sym c.codes_fit.ensures ∙ c.if-not-codes_fit.true) in
    sym (fails_inside c.args.levels c.args.code.now c.requires (ap (list_all (all_fit (c.args.levels - 1))) (sym c.as_slice-child-items.ensures) ∙ inside))

pub returns : goal.returns
returns t c =
    let whole = whole_row (all_fit (c.args.levels - 1)) c.as_slice-child-items.result.now c.loop-child.child-index c.loop-child-test.false c.loop-child.invariant in
    sym (fits_all c.args.levels c.args.code.now c.requires (sym c.code_fits.ensures ∙ c.if-not-code_fits.false) (ap (list_all (all_fit (c.args.levels - 1))) (sym c.as_slice-child-items.ensures) ∙ whole))
