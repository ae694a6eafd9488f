use Rattle.std.proofs.Common.{ℕ, ◌<◌, arith, subst}
use Rattle.prim_operators.proofs.ItemsShown.{item_plain, length_plain}
use Rattle.prim_operators.proofs.items.other_item.Goals as goal

pub item_at-requires-clause-within : goal.item_at-requires-clause-within
item_at-requires-clause-within g c =
    let texts = g.C.Constants.text_of c.args.consts.now in
    let tuples = g.C.Constants.items_of c.args.consts.now in
    let h = c.args.arena.now in
    subst (λ (n : ℕ). c.args.at < n) (length_plain texts tuples h c.args.over c.requires.items c.requires.leads c.items_law.ensures.nested) c.requires.within

pub overflow_cast-at : goal.overflow_cast-at
overflow_cast-at g c =
    let texts = g.C.Constants.text_of c.args.consts.now in
    let tuples = g.C.Constants.items_of c.args.consts.now in
    let h = c.args.arena.now in
    let length = length_plain texts tuples h c.args.over c.requires.items c.requires.leads c.items_law.ensures.nested in
    let within = subst (λ (n : ℕ). c.args.at < n) length c.requires.within in
    omega (arith, within, c.items_law.ensures.few)

pub returns-clause-item : goal.returns-clause-item
returns-clause-item g c =
    let texts = g.C.Constants.text_of c.args.consts.now in
    let tuples = g.C.Constants.items_of c.args.consts.now in
    let h = c.args.arena.now in
    item_plain texts tuples h c.args.over c.args.at c.item_at.result c.requires.items c.requires.leads c.items_law.ensures.nested c.item_at.ensures.item
