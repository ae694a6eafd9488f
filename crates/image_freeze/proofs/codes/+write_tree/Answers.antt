use Rattle.std.proofs.Common.{◌≡◌, ◌-◌, ◌<◌, ◌≤◌, ◌++◌, ℕ, List, length, get_or, refl, sym, ap, subst, ◌∙◌, arith}
use Rattle.std.specs.List.{flat_map}
use Rattle.mpy_base.specs.declared.limits.TheConstants.{MAX_CODE_BYTES}
use Rattle.mpy_writer.specs.mpy_tree.declared.raw.RawCode.{RawCode}
use Rattle.mpy_writer.specs.mpy_tree.Canonical.{code_bytes}
use Rattle.mpy_writer.proofs.mpy_tree_lemmas.Codes.{Nests, children, whole, get_at}
use Rattle.image_freeze.proofs.Loops.{added_all, added_more}
use Rattle.image_freeze.proofs.Trees.{tree_written}
use Rattle.image_freeze.proofs.codes.+write_tree.Goals as goal

pub write_head-requires-clause-short : goal.write_head-requires-clause-short
write_head-requires-clause-short t c =
    let w = whole c.requires.0 c.args.levels c.args.code.now (c.requires.1, c.requires.2) in
    subst (λ (z : List ℕ). length z ≤ MAX_CODE_BYTES) (sym c.bytes.ensures) w.short

pub write_head-requires-clause-few : goal.write_head-requires-clause-few
write_head-requires-clause-few t c =
    let w = whole c.requires.0 c.args.levels c.args.code.now (c.requires.1, c.requires.2) in
    let few = w.few in
    omega (arith, few, c.len.ensures)

pub overflow_sub-levels : goal.overflow_sub-levels
overflow_sub-levels t c =
    let w = whole c.requires.0 c.args.levels c.args.code.now (c.requires.1, c.requires.2) in
    omega (arith, w.levels_are)

pub write_tree-requires : goal.write_tree-requires
write_tree-requires t c =
    let w = whole c.requires.0 c.args.levels c.args.code.now (c.requires.1, c.requires.2) in
    let below : w.below ≡ c.args.levels - 1 = omega (arith, w.levels_are) in
    let lt = subst (λ (z : List RawCode). c.loop-child.child-index < length z) c.as_slice-child-items.ensures c.loop-child-test.true in
    let is = subst (λ (z : List RawCode). c.child-item.result ≡ get_or z c.loop-child.child-index c.child-item.result) c.as_slice-child-items.ensures c.child-item.is in
    let here = get_at (children c.args.code.now) c.loop-child.child-index c.child-item.result lt is in
    let inside = subst (λ (n : ℕ). Nests c.requires.0 n c.child-item.result) below (w.each c.loop-child.child-index c.child-item.result here) in
    (omega (arith, w.levels_are), (c.requires.0, inside.0, inside.1))

pub loop-child-preserved : goal.loop-child-preserved
loop-child-preserved t c =
    added_more (code_bytes (c.args.levels - 1)) c.as_slice-child-items.result.now c.loop-child.child-index c.child-item.result c.write_head.new.out.items c.loop-child.out.items c.write_tree.new.out.items _ c.loop-child-test.true c.child-item.is c.in_ok-write_tree.ensures c.loop-child.invariant

pub returns : goal.returns
returns t c =
    let w = whole c.requires.0 c.args.levels c.args.code.now (c.requires.1, c.requires.2) in
    let f = code_bytes (c.args.levels - 1) in
    let items = c.as_slice-child-items.result.now in
    let all = added_all f items c.loop-child.child-index c.write_head.new.out.items c.loop-child.out.items (flat_map f items) (omega (arith, c.loop-child-test.false)) c.loop-child.invariant in
    tree_written c.args.levels (c.args.levels - 1) 0 c.args.code.now items c.bytes.result.now c.args.out.now.items c.write_head.new.out.items c.loop-child.out.items c.len.result (omega (arith, w.levels_are)) c.bytes.ensures c.as_slice-child-items.ensures c.len.ensures c.in_ok-write_head.ensures all
