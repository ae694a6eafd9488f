use Rattle.std.proofs.Common.{◌≡◌, ◌+◌, ◌-◌, length, Some, sym, ap, subst, arith}
use Rattle.std.specs.Prelude.{slice_get, max}
use Rattle.bc_verify.specs.bc_prelude.Prelude.{Begins}
use Rattle.bc_verify.proofs.mpy_tree_lemmas.Codes.{Nests, children, whole, get_at}
use Rattle.bc_library.specs.Greatest.{IsGreatestIn}
use Rattle.bc_library.proofs.Preludes.{HasBelow, first_code, next_child, all_children}
use Rattle.bc_library.proofs.greatest.+greatest_in.Goals as goal

pub parts_of-requires : goal.parts_of-requires
parts_of-requires t c =
    let w = whole c.requires.0 c.args.levels c.args.code.now (c.requires.1, c.requires.2) in
    (w.own.prelude, subst (λ z. Begins z w.own.prelude) (sym c.bytes.ensures) w.own.begins)

pub loop-child-init : goal.loop-child-init
loop-child-init t c =
    let prelude = c.parts_of.result.prelude in
    first_code c.args.code.now prelude (subst (λ z. Begins z prelude) c.bytes.ensures c.parts_of.ensures.begins)

pub overflow_sub-levels : goal.overflow_sub-levels
overflow_sub-levels t c = let w = whole c.requires.0 c.args.levels c.args.code.now (c.requires.1, c.requires.2) in omega (arith, w.levels_are)

pub greatest_in-child_state-requires : goal.greatest_in-child_state-requires
greatest_in-child_state-requires t c =
    let w = whole c.requires.0 c.args.levels c.args.code.now (c.requires.1, c.requires.2) in
    let below : w.below ≡ c.args.levels - 1 = omega (arith, w.levels_are) in
    let here : slice_get (children c.args.code.now) c.loop-child.child-index ≡ Some c.child-item.result =
    subst (λ z. slice_get z c.loop-child.child-index ≡ Some c.child-item.result) c.as_slice-child-items.ensures
    (get_at c.as_slice-child-items.result.now c.loop-child.child-index c.child-item.result c.loop-child-test.true c.child-item.is) in
    let inner = subst (λ n. Nests c.requires.0 n c.child-item.result) below (w.each c.loop-child.child-index c.child-item.result here) in
    (omega (arith, w.levels_are), (c.requires.0, inner.0, inner.1))

pub loop-child-preserved : goal.loop-child-preserved
loop-child-preserved t c =
    let here : slice_get (children c.args.code.now) c.loop-child.child-index ≡ Some c.child-item.result =
    subst (λ z. slice_get z c.loop-child.child-index ≡ Some c.child-item.result) c.as_slice-child-items.ensures
    (get_at c.as_slice-child-items.result.now c.loop-child.child-index c.child-item.result c.loop-child-test.true c.child-item.is) in
    let next = next_child c.args.code.now c.child-item.result c.loop-child.child-index c.loop-child.state c.loop-child.exc c.greatest_in-child_state.result.0 c.greatest_in-child_state.result.1 here c.loop-child.invariant c.greatest_in-child_state.ensures in
    let P = HasBelow c.args.code.now (c.loop-child.child-index + 1) in
    subst (λ z. IsGreatestIn P z c.max-exc.result) (sym c.max-state.ensures) (subst (λ z. IsGreatestIn P (max c.loop-child.state c.greatest_in-child_state.result.0) z) (sym c.max-exc.ensures) next)

pub returns : goal.returns
returns t c =
    all_children c.args.code.now c.loop-child.child-index c.loop-child.state c.loop-child.exc (omega (arith, c.loop-child-test.false, ap length c.as_slice-child-items.ensures)) c.loop-child.invariant
