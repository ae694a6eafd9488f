use Rattle.std.proofs.Common.{◌≡◌, ◌-◌, ◌<◌, ℕ, List, length, get_or, sym, ap, subst, ◌∙◌, arith}
use Rattle.image_grammar.specs.mpy_tree.declared.module.Constant.{Constant}
use Rattle.image_grammar.specs.mpy_tree.declared.module.Constant.TheVariants as constants
use Rattle.image_grammar.specs.bc_library.Constants.{items_in}
use Rattle.image_grammar.specs.bc_library.Fine.{Fine}
use Rattle.image_grammar.proofs.bc_library_lemmas.Preorders.{below, is_tuple}
use Rattle.image_open.proofs.ModuleCopies.{all_copied, at_place, next_copied}
use Rattle.image_open.proofs.objects.+copy_object.Goals as goal

pub overflow_sub-levels : goal.overflow_sub-levels
overflow_sub-levels t c =
    let b = below c.args.levels c.args.object.now c.in-Tuple.items c.requires (ap items_in (is_tuple c.args.object.now c.in-Tuple.items c.in-Tuple.is)) in
    omega (arith, b.levels_are)

pub copy_object-requires : goal.copy_object-requires
copy_object-requires t c =
    let b = below c.args.levels c.args.object.now c.in-Tuple.items c.requires (ap items_in (is_tuple c.args.object.now c.in-Tuple.items c.in-Tuple.is)) in
    let same : b.levels ≡ c.args.levels - 1 = omega (arith, b.levels_are) in
    let lt = subst (λ (z : List Constant). c.loop-item.item-index < length z) c.as_slice-item-items.ensures c.loop-item-test.true in
    let is = subst (λ (z : List Constant). c.item-item.result ≡ get_or z c.loop-item.item-index c.item-item.result) c.as_slice-item-items.ensures c.item-item.is in
    let fine = (b.few.each) c.loop-item.item-index c.item-item.result (at_place c.in-Tuple.items c.loop-item.item-index c.item-item.result lt is) in
    (omega (arith, b.levels_are), subst (λ (n : ℕ). Fine n c.item-item.result) same fine)

pub loop-item-preserved : goal.loop-item-preserved
loop-item-preserved t c =
    next_copied c.as_slice-item-items.result.now c.loop-item.copies c.push.new.self c.loop-item.item-index c.item-item.result c.in_ok-copy_object-in-Tuple.field-0 c.loop-item-test.true c.item-item.is c.in_ok-copy_object-in-Tuple.ensures c.in_ok-push-in-Tuple.ensures.ok c.loop-item.invariant

pub returns-after-loop-item : goal.returns-after-loop-item
returns-after-loop-item t c =
    let all = all_copied c.as_slice-item-items.result.now c.loop-item.copies c.loop-item.item-index (omega (arith, c.loop-item-test.false)) c.loop-item.invariant in
    ap (λ (z : List Constant). constants.Tuple z) (all ∙ c.as_slice-item-items.ensures) ∙ sym c.in-Tuple.is
