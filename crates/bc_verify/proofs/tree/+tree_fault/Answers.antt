use Rattle.std.proofs.Common.{◌≡◌, ◌-◌, Some, length, ap, subst, arith}
use Rattle.std.specs.Prelude.{slice_get}
use Rattle.mpy_tree.proofs.Codes.{Nests, children, whole, get_at}
use Rattle.bc_verify.proofs.Trees.{some_of, none_of, one_done, all_done, fault_below}
use Rattle.bc_verify.proofs.tree.+tree_fault.Goals as goal

pub code_fault-requires-clause-own : goal.code_fault-requires-clause-own
code_fault-requires-clause-own t c = (c.requires.0, (whole c.requires.0 c.args.levels c.args.code.now (c.requires.1, c.requires.2)).own)

pub code_fault-requires-clause-short : goal.code_fault-requires-clause-short
code_fault-requires-clause-short t c = (whole c.requires.0 c.args.levels c.args.code.now (c.requires.1, c.requires.2)).short

pub overflow_sub-levels : goal.overflow_sub-levels
overflow_sub-levels t c = let w = whole c.requires.0 c.args.levels c.args.code.now (c.requires.1, c.requires.2) in omega (arith, w.levels_are)

pub tree_fault-requires : goal.tree_fault-requires
tree_fault-requires t c =
    let w = whole c.requires.0 c.args.levels c.args.code.now (c.requires.1, c.requires.2) in
    let below : w.below ≡ c.args.levels - 1 = omega (arith, w.levels_are) in
    let here : slice_get (children c.args.code.now) c.loop-place.place ≡ Some c.child-item.result =
    subst (λ z. slice_get z c.loop-place.place ≡ Some c.child-item.result) c.as_slice-child-items.ensures
    (get_at c.as_slice-child-items.result.now c.loop-place.place c.child-item.result c.loop-place-test.true c.child-item.is) in
    let inner = subst (λ n. Nests c.requires.0 n c.child-item.result) below (w.each c.loop-place.place c.child-item.result here) in
    (omega (arith, w.levels_are), (c.requires.0, inner.0, inner.1))

pub returns-in-Some-2-clause-some : goal.returns-in-Some-2-clause-some
returns-in-Some-2-clause-some t c =
    let here : slice_get (children c.args.code.now) c.loop-place.place ≡ Some c.child-item.result =
    subst (λ z. slice_get z c.loop-place.place ≡ Some c.child-item.result) c.as_slice-child-items.ensures
    (get_at c.as_slice-child-items.result.now c.loop-place.place c.child-item.result c.loop-place-test.true c.child-item.is) in
    let verified = none_of c.in_ok-fault.field-0 _ c.in_default.not-Some c.in_ok-fault.ensures.none in
    let fault = some_of c.in_ok-fault-2.field-0 _ c.in-Some-2.fault c.in-Some-2.is c.in_ok-fault-2.ensures.some in
    rw (c.in_ok-above.ensures.0, c.in_ok-above.ensures.1, c.in_ok-above.ensures.2)
    (fault_below c.args.module.now c.args.code.now c.child-item.result c.loop-place.place _ _ _ verified here c.loop-place.invariant fault)

pub loop-place-preserved : goal.loop-place-preserved
loop-place-preserved t c =
    let here : slice_get (children c.args.code.now) c.loop-place.place ≡ Some c.child-item.result =
    subst (λ z. slice_get z c.loop-place.place ≡ Some c.child-item.result) c.as_slice-child-items.ensures
    (get_at c.as_slice-child-items.result.now c.loop-place.place c.child-item.result c.loop-place-test.true c.child-item.is) in
    let verified = none_of c.in_ok-fault-2.field-0 _ c.in_default-2.not-Some c.in_ok-fault-2.ensures.none in
    one_done c.args.module.now c.args.code.now c.child-item.result c.loop-place.place here verified c.loop-place.invariant

pub returns-clause-none : goal.returns-clause-none
returns-clause-none t c =
    let verified = none_of c.in_ok-fault.field-0 _ c.in_default.not-Some c.in_ok-fault.ensures.none in
    all_done c.args.module.now c.args.code.now c.loop-place.place (omega (arith, c.loop-place-test.false, ap length c.as_slice-child-items.ensures)) verified c.loop-place.invariant
