use Rattle.std.proofs.Common.{◌≡◌, ◌+◌, ◌*◌, ◌<◌, List, length, get_or, true, false, sym, ap, ◌∙◌, arith}
use Rattle.prim_builtins.specs.arena_heap.declared.value.Value.{Value}
use Rattle.prim_builtins.specs.arena_heap.declared.value.Value.TheVariants as values
use Rattle.prim_builtins.specs.mpy_base.World.{AText}
use Rattle.prim_builtins.proofs.mpy_base_lemmas.Worlds.{is_within}
use Rattle.prim_builtins.specs.arena_objects.Iterables.{items_in}
use Rattle.prim_builtins.proofs.prim_operators_lemmas.ItemFills.{read_value}
use Rattle.prim_collections.specs.Collected.{is_str}
use Rattle.prim_collections.proofs.TupleFills.{text_there, values_str, values_other}
use Rattle.prim_collections.proofs.tuples.kept_item.Goals as goal

pub overflow_mul-cell : goal.overflow_mul-cell
overflow_mul-cell g c =
    let texts = g.C.Constants.text_of c.args.consts.now in
    let tuples = g.C.Constants.items_of c.args.consts.now in
    let h = c.args.arena.now in
    let first = c.args.first in
    let at = c.args.at in
    let str : is_str c.args.v ≡ true = sym c.is_str.ensures ∙ c.if-is_str.true in
    let low : first + 2 * at < length h.objects = is_within h.objects AText (first + 2 * at) (c.requires.letters str at c.requires.within) in
    record { fits = omega (arith, low, c.room_law.ensures.fits.cells_fit, c.room_law.ensures.few) }

pub overflow_add-cell : goal.overflow_add-cell
overflow_add-cell g c =
    let texts = g.C.Constants.text_of c.args.consts.now in
    let tuples = g.C.Constants.items_of c.args.consts.now in
    let h = c.args.arena.now in
    let first = c.args.first in
    let at = c.args.at in
    let str : is_str c.args.v ≡ true = sym c.is_str.ensures ∙ c.if-is_str.true in
    let low : first + 2 * at < length h.objects = is_within h.objects AText (first + 2 * at) (c.requires.letters str at c.requires.within) in
    record { fits = omega (arith, low, c.room_law.ensures.fits.cells_fit, c.room_law.ensures.few) }

pub returns-then-is_str-clause-item : goal.returns-then-is_str-clause-item
returns-then-is_str-clause-item g c =
    let texts = g.C.Constants.text_of c.args.consts.now in
    let tuples = g.C.Constants.items_of c.args.consts.now in
    let h = c.args.arena.now in
    let str : is_str c.args.v ≡ true = sym c.is_str.ensures ∙ c.if-is_str.true in
    text_there c.args.first c.args.count c.args.at c.requires.within ∙ ap (λ (xs : List Value). get_or xs c.args.at values.None) (sym (values_str tuples h c.args.first c.args.count c.args.v str))

pub returns-then-is_str-clause-leads : goal.returns-then-is_str-clause-leads
returns-then-is_str-clause-leads g c =
    let texts = g.C.Constants.text_of c.args.consts.now in
    let tuples = g.C.Constants.items_of c.args.consts.now in
    let h = c.args.arena.now in
    let str : is_str c.args.v ≡ true = sym c.is_str.ensures ∙ c.if-is_str.true in
    record { meets = c.requires.letters str c.args.at c.requires.within; small = tt }

pub item_at-requires-clause-within : goal.item_at-requires-clause-within
item_at-requires-clause-within g c =
    let texts = g.C.Constants.text_of c.args.consts.now in
    let tuples = g.C.Constants.items_of c.args.consts.now in
    let h = c.args.arena.now in
    let other : is_str c.args.v ≡ false = sym c.is_str.ensures ∙ c.if-is_str.false in
    omega (arith, c.requires.within, c.requires.items, ap (λ (xs : List Value). length xs) (values_other tuples h c.args.first c.args.count c.args.v other))

pub returns-else-is_str-clause-item : goal.returns-else-is_str-clause-item
returns-else-is_str-clause-item g c =
    let texts = g.C.Constants.text_of c.args.consts.now in
    let tuples = g.C.Constants.items_of c.args.consts.now in
    let h = c.args.arena.now in
    let other : is_str c.args.v ≡ false = sym c.is_str.ensures ∙ c.if-is_str.false in
    read_value (items_in tuples h c.args.v) c.args.at c.item_at.result c.item_at.ensures.item
    ∙ ap (λ (xs : List Value). get_or xs c.args.at values.None) (sym (values_other tuples h c.args.first c.args.count c.args.v other))
