use Rattle.std.proofs.Common.{◌≡◌, ◌-◌, ◌<◌, ℕ, List, length, get_or, ap₂, subst, ◌∙◌, arith}
use Rattle.image_grammar.specs.mpy_tree.declared.raw.RawCode.{RawCode, roll-RawCode, roll-out-RawCode}
use Rattle.image_grammar.proofs.mpy_tree_lemmas.Codes.{Nests, whole, children}
use Rattle.image_open.proofs.ModuleCopies.{all_copied, at_place, next_copied}
use Rattle.image_open.proofs.codes.+copy_code.Goals as goal

pub overflow_sub-levels : goal.overflow_sub-levels
overflow_sub-levels t c =
    let w = whole c.requires.0 c.args.levels c.args.code.now (c.requires.1, c.requires.2) in
    omega (arith, w.levels_are)

pub copy_code-requires : goal.copy_code-requires
copy_code-requires t c =
    let w = whole c.requires.0 c.args.levels c.args.code.now (c.requires.1, c.requires.2) in
    let left : w.below ≡ c.args.levels - 1 = omega (arith, w.levels_are) in
    let lt = subst (λ (z : List RawCode). c.loop-child.child-index < length z) c.as_slice-child-items.ensures c.loop-child-test.true in
    let is = subst (λ (z : List RawCode). c.child-item.result ≡ get_or z c.loop-child.child-index c.child-item.result) c.as_slice-child-items.ensures c.child-item.is in
    let here = at_place (children c.args.code.now) c.loop-child.child-index c.child-item.result lt is in
    let inside = subst (λ (n : ℕ). Nests c.requires.0 n c.child-item.result) left (w.each c.loop-child.child-index c.child-item.result here) in
    (omega (arith, w.levels_are), (c.requires.0, inside.0, inside.1))

pub loop-child-preserved : goal.loop-child-preserved
loop-child-preserved t c =
    next_copied c.as_slice-child-items.result.now c.loop-child.children c.push.new.self c.loop-child.child-index c.child-item.result c.in_ok-copy_code.field-0 c.loop-child-test.true c.child-item.is c.in_ok-copy_code.ensures c.in_ok-push.ensures.ok c.loop-child.invariant

pub returns : goal.returns
returns t c =
    let all = all_copied c.as_slice-child-items.result.now c.loop-child.children c.loop-child.child-index (omega (arith, c.loop-child-test.false)) c.loop-child.invariant in
    ap₂ (λ (own : List ℕ) (inner : List RawCode). roll-RawCode (record { bytes = own; children = inner })) (c.in_ok-bytes.ensures ∙ c.bytes.ensures) (all ∙ c.as_slice-child-items.ensures) ∙ roll-out-RawCode c.args.code.now
