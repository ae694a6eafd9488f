use Rattle.std.proofs.Common.{◌≡◌, ◌+◌, ◌-◌, ◌<◌, ◌≤◌, ◌++◌, ℕ, List, [], refl, Some, length, get_or, sym, ap, ap₂, subst, ◌∙◌, arith}
use Rattle.std.specs.Prelude.{slice_get}
use Rattle.std.proofs.lemmas.Result.{err_from_is_err_and}
use Rattle.mpy_base.specs.declared.limits.TheConstants.{MAX_CODE_BYTES}
use Rattle.mpy_writer.specs.mpy_tree.declared.raw.RawCode.{RawCode}
use Rattle.mpy_writer.proofs.Steps.{exit}
use Rattle.mpy_merge.specs.Far.{IsFarOwn, HasFarCode}
use Rattle.mpy_merge.specs.Heads.{head_of}
use Rattle.mpy_merge.specs.Kept.{IsKeptCode}
use Rattle.mpy_merge.specs.Moved.{IsMovedOwn}
use Rattle.mpy_writer.proofs.mpy_tree_lemmas.Codes.{Nests, children, whole, get_at}
use Rattle.mpy_merge.proofs.Trees.{kept_code, verified_child, far_child, far_here, reached_none, reached_more, all_written}
use Rattle.mpy_merge.proofs.tree.+write_tree.Goals as goal

pub moved_own-requires-clause-kept : goal.moved_own-requires-clause-kept
moved_own-requires-clause-kept t c =
    subst (IsKeptCode c.args.module.now) (sym c.bytes.ensures) (kept_code c.args.module.now c.args.levels c.args.raw.now c.requires.nests (c.requires.verified [] c.args.raw.now refl))

pub returns-in_err-own-clause-fault : goal.returns-in_err-own-clause-fault
returns-in_err-own-clause-fault t c =
    let p = err_from_is_err_and c.from_residual.result c.from_residual.ensures.1 in
    let tables = c.args.tables.now in
    let m = c.args.module.now in
    exit (λ f. IsFarOwn tables c.args.base m c.bytes.result.now) (λ f. HasFarCode tables c.args.base m c.args.raw.now) _ _ _ p.1 p.2 c.in_err-own.ensures.fault
    (λ f far. far_here tables c.args.base m c.args.raw.now (subst (IsFarOwn tables c.args.base m) c.bytes.ensures far))

pub write_head-requires-clause-short : goal.write_head-requires-clause-short
write_head-requires-clause-short t c = subst (λ (z : List ℕ). length z ≤ MAX_CODE_BYTES) (sym c.deref.ensures.value) c.in_ok-own.ensures.ok.short

pub write_head-requires-clause-few : goal.write_head-requires-clause-few
write_head-requires-clause-few t c =
    let w = whole (length c.args.module.now.qstrs) c.args.levels c.args.raw.now c.requires.nests in
    let few = w.few in
    omega (arith, few, c.len.ensures)

pub overflow_sub-levels : goal.overflow_sub-levels
overflow_sub-levels t c = let w = whole (length c.args.module.now.qstrs) c.args.levels c.args.raw.now c.requires.nests in omega (arith, w.levels_are)

pub loop-child-init : goal.loop-child-init
loop-child-init t c = reached_none (c.args.levels - 1) c.args.tables.now c.args.base c.args.module.now (children c.args.raw.now) c.write_head.new.out.items

pub write_tree-requires : goal.write_tree-requires
write_tree-requires t c =
    let m = c.args.module.now in
    let w = whole (length m.qstrs) c.args.levels c.args.raw.now c.requires.nests in
    let below : w.below ≡ c.args.levels - 1 = omega (arith, w.levels_are) in
    let here : slice_get (children c.args.raw.now) c.loop-child.child-index ≡ Some c.child-item.result =
    subst (λ z. slice_get z c.loop-child.child-index ≡ Some c.child-item.result) c.as_slice-child-items.ensures
    (get_at c.as_slice-child-items.result.now c.loop-child.child-index c.child-item.result c.loop-child-test.true c.child-item.is) in (
      omega (arith, w.levels_are),
      (
        c.requires.fit,
        (
          c.requires.few,
          (
            subst (λ n. Nests (length m.qstrs) n c.child-item.result) below (w.each c.loop-child.child-index c.child-item.result here),
            verified_child m c.args.raw.now c.child-item.result c.loop-child.child-index c.requires.verified here,
          ),
        ),
      ),
    )

pub returns-in_err-write_tree-clause-fault : goal.returns-in_err-write_tree-clause-fault
returns-in_err-write_tree-clause-fault t c =
    let p = err_from_is_err_and c.from_residual-in_err-write_tree.result c.from_residual-in_err-write_tree.ensures.1 in
    let tables = c.args.tables.now in
    let m = c.args.module.now in
    let here : slice_get (children c.args.raw.now) c.loop-child.child-index ≡ Some c.child-item.result =
    subst (λ z. slice_get z c.loop-child.child-index ≡ Some c.child-item.result) c.as_slice-child-items.ensures
    (get_at c.as_slice-child-items.result.now c.loop-child.child-index c.child-item.result c.loop-child-test.true c.child-item.is) in
    exit (λ f. HasFarCode tables c.args.base m c.child-item.result) (λ f. HasFarCode tables c.args.base m c.args.raw.now) _ _ _ p.1 p.2 c.in_err-write_tree.ensures.fault
    (λ f far. far_child tables c.args.base m c.args.raw.now c.child-item.result c.loop-child.child-index here far)

pub loop-child-preserved : goal.loop-child-preserved
loop-child-preserved t c =
    let raws = children c.args.raw.now in
    let lt = subst (λ (z : List RawCode). c.loop-child.child-index < length z) c.as_slice-child-items.ensures c.loop-child-test.true in
    let is = subst (λ (z : List RawCode). c.child-item.result ≡ get_or z c.loop-child.child-index c.child-item.result) c.as_slice-child-items.ensures c.child-item.is in
    reached_more (c.args.levels - 1) c.args.tables.now c.args.base c.args.module.now raws c.loop-child.child-index c.write_head.new.out.items c.loop-child.out.items c.write_tree.new.out.items c.child-item.result lt is c.loop-child.invariant c.in_ok-write_tree.ensures.ok

pub returns-clause-ok : goal.returns-clause-ok
returns-clause-ok t c =
    let m = c.args.module.now in
    let w = whole (length m.qstrs) c.args.levels c.args.raw.now c.requires.nests in
    let raws = children c.args.raw.now in
    let own = c.in_ok-own.own.items in
    let headed = c.in_ok-write_head.ensures ∙ ap₂ (λ (z : List ℕ) (n : ℕ). c.args.out.now.items ++ head_of z n) c.deref.ensures.value c.len.ensures in
    all_written c.args.levels (c.args.levels - 1) c.args.tables.now c.args.base m c.args.raw.now own c.args.out.now.items c.write_head.new.out.items c.loop-child.out.items c.loop-child.child-index
    (omega (arith, w.levels_are)) (subst (λ (z : List ℕ). IsMovedOwn c.args.tables.now c.args.base m z own) c.bytes.ensures c.in_ok-own.ensures.ok) headed
    (omega (arith, c.loop-child-test.false, ap length c.as_slice-child-items.ensures)) c.loop-child.invariant
