use Rattle.std.proofs.Common.{◌+◌, ◌-◌, length, refl, ◌∙◌, arith, drop}
use Rattle.emit_measures.proofs.Numbers.{two, sum}
use Rattle.emit_measures.proofs.Rows.{top, none_yet, one_more, whole, left_behind, doubled}
use Rattle.emit_measures.proofs.StoreHeights.{assigns_in, assigns_row}
use Rattle.emit_measures.proofs.target_heights.assigns_height.Goals as goal

pub loop-target-init : goal.loop-target-init
loop-target-init c = record { left = let n = length c.args.targets.now in omega arith; so_far = none_yet assigns_in c.args.targets.now }

pub loop-target-preserved : goal.loop-target-preserved
loop-target-preserved c =
    let ts = c.args.targets.now in
    let i = c.loop-target.target-index in
    let h = c.loop-target.invariant.left in
    let l = c.loop-target-test.true in
    let left = c.loop-target.left - 1 in
    let behind = left_behind ts i left (omega (arith, h, l)) in
    let first = doubled 2 (drop (i + 1) ts) left c.if_left-doubled.result behind c.if_left-doubled.ensures.some c.if_left-doubled.ensures.none (omega arith) in
    let kept = doubled 1 (drop (i + 1) ts) left c.if_left-kept.result behind c.if_left-kept.ensures.some c.if_left-kept.ensures.none (omega arith) in
    let own = c.max.ensures ∙ two top _ _ _ _ first (c.saturating_add-own.ensures ∙ sum top _ _ _ _ c.store_height.ensures kept) in
    record {
      left = omega (arith, h, l);
      so_far = one_more ts i c.target-item.result c.max.result c.max-height.result assigns_row c.loop-target.invariant.so_far l c.target-item.is (λ n. own) c.max-height.ensures;
    }

pub returns : goal.returns
returns c = whole c.args.targets.now c.loop-target.target-index c.loop-target.invariant.so_far c.loop-target-test.false (λ m. refl) 0
