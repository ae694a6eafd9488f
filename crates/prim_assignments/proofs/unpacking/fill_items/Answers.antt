use Rattle.std.proofs.Common.{◌<◌, List, length, take, set, sym, ap₂, ◌∙◌, subst, arith}
use Rattle.std.specs.List.{All}
use Rattle.std.proofs.lemmas.List.Elements.{All-push}
use Rattle.std.proofs.lemmas.Option.{slice_get_within}
use Rattle.prim_operators.specs.arena_heap.declared.value.Value.{Value}
use Rattle.prim_operators.specs.arena_heap.declared.value.Value.TheVariants as values
use Rattle.prim_operators.specs.arena_objects.Iterables.{items_in}
use Rattle.prim_operators.proofs.arena_objects_lemmas.Gifts.{item_more}
use Rattle.prim_operators.specs.prim_faults.Faults.{IsKnown}
use Rattle.prim_operators.proofs.TextFills.{partly_more}
use Rattle.prim_operators.proofs.ItemFills.{read_value}
use Rattle.prim_assignments.proofs.unpacking.fill_items.Goals as goal

pub loop-at-preserved : goal.loop-at-preserved
loop-at-preserved g c =
    let texts = g.C.Constants.text_of c.args.consts.now in
    let tuples = g.C.Constants.items_of c.args.consts.now in
    let h = c.args.arena.now in
    let items = items_in tuples h c.args.over in
    let slots = c.args.slots.now in
    let at = c.loop-at.at in
    let v = c.item_at.result in
    let read = read_value items at v c.item_at.ensures.item in
    let within : at < length items = slice_get_within items at v c.item_at.ensures.item in
    let few : at < length slots = omega (arith, within, c.requires.count) in
    let known : IsKnown texts tuples h.objects v = record { leads = c.item_at.ensures.leads; told = c.item_at.ensures.told } in (
      ap₂ (λ (xs : List Value) (w : Value). set xs at w) c.loop-at.invariant.0 read ∙ partly_more items slots at values.None within few,
      subst (All (IsKnown texts tuples h.objects)) (sym (item_more items at v c.item_at.ensures.item)) (All-push (IsKnown texts tuples h.objects) (take at items) v c.loop-at.invariant.1 known),
    )
