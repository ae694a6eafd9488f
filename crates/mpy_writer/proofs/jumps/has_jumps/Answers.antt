use Rattle.std.proofs.Common.{[], ◌∷◌, ◌++◌, All, take, false, sym, ap, subst, ◌≡◌, ◌∙◌}
use Rattle.std.proofs.lemmas.List.{take_more, take_all}
use Rattle.std.proofs.lemmas.List.Elements.{All-push}
use Rattle.mpy_tree.specs.declared.module.Item.{Item}
use Rattle.mpy_writer.specs.Positions.{is_jump}
use Rattle.mpy_writer.proofs.jumps.has_jumps.Goals as goal

pub loop-item-preserved : goal.loop-item-preserved
loop-item-preserved c =
    let items = c.args.items.now in
    let i = c.loop-item.item-index in
    let item = c.item-item.result in
    let next = take_more items i item c.loop-item-test.true ∙ ap (λ (y : Item). take i items ++ y ∷ []) (sym c.item-item.is) in
    subst (All (λ (y : Item). is_jump y ≡ false)) (sym next)
    (All-push (λ (y : Item). is_jump y ≡ false) (take i items) item c.loop-item.invariant (sym c.is_jump.ensures ∙ c.if-is_jump.false))

pub returns : goal.returns
returns c _ = subst (All (λ (y : Item). is_jump y ≡ false)) (take_all c.loop-item.item-index c.args.items.now c.loop-item-test.false) c.loop-item.invariant
