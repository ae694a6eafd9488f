use Rattle.std.proofs.Common.{◌≡◌, ℕ, ◌-◌, ◌<◌, ◌≤◌, ◌%◌, length, get_or, refl, sym, ap, ◌∙◌, subst, arith}
use Rattle.std.specs.List.{repeat}
use Rattle.std.proofs.lemmas.List.{get_or_append_left, get_or-append_right}
use Rattle.std.proofs.lemmas.Nat.{mod_below}
use Rattle.prim_faults.specs.arena_heap.declared.value.Value.TheVariants as values
use Rattle.prim_faults.specs.arena_objects.Iterables.{items_in}
use Rattle.prim_operators.specs.declared.sources.Source.{Source}
use Rattle.prim_operators.specs.Sources.{source_items}
use Rattle.prim_operators.proofs.ItemFills.{read_value}
use Rattle.prim_operators.proofs.Repeats.{repeat_at}
use Rattle.prim_operators.proofs.sources.source_item.Goals as goal

pub nonzero_rem-at : goal.nonzero_rem-at
nonzero_rem-at g c =
    let tuples = g.C.Constants.items_of c.args.consts.now in
    let h = c.args.arena.now in
    let items = items_in tuples h c.in-Repeated.of in
    let within : c.args.at < length (repeat c.in-Repeated.field-0 items) = subst (λ (s : Source). c.args.at < length (source_items tuples h s)) c.in-Repeated.is c.requires.within in
    let read = repeat_at items c.in-Repeated.field-0 c.args.at values.None within in
    let count : c.item_count-count-in-Repeated.result ≡ length items = c.item_count-count-in-Repeated.ensures in
    omega (arith, read.0, count)

pub item_at-requires-in-Repeated-clause-within : goal.item_at-requires-in-Repeated-clause-within
item_at-requires-in-Repeated-clause-within g c =
    let tuples = g.C.Constants.items_of c.args.consts.now in
    let h = c.args.arena.now in
    let items = items_in tuples h c.in-Repeated.of in
    let within : c.args.at < length (repeat c.in-Repeated.field-0 items) = subst (λ (s : Source). c.args.at < length (source_items tuples h s)) c.in-Repeated.is c.requires.within in
    let read = repeat_at items c.in-Repeated.field-0 c.args.at values.None within in
    let count : c.item_count-count-in-Repeated.result ≡ length items = c.item_count-count-in-Repeated.ensures in
    let some : 0 < c.item_count-count-in-Repeated.result = omega (arith, read.0, count) in
    omega (arith, count, mod_below c.args.at c.item_count-count-in-Repeated.result some)

pub returns-then-at-count-clause-item : goal.returns-then-at-count-clause-item
returns-then-at-count-clause-item g c =
    let tuples = g.C.Constants.items_of c.args.consts.now in
    let h = c.args.arena.now in
    let at = c.args.at in
    let xs = items_in tuples h c.in-Joined.left in
    let ys = items_in tuples h c.in-Joined.right in
    let count : c.item_count-count.result ≡ length xs = c.item_count-count.ensures in
    let whole = sym (ap (λ (s : Source). get_or (source_items tuples h s) at values.None) c.in-Joined.is) in
    let lt : at < length xs = omega (arith, count, c.if-at-count.true) in
    read_value xs at c.item_at.result c.item_at.ensures.item ∙ (sym (get_or_append_left xs ys values.None at lt) ∙ whole)

pub returns-else-at-count-clause-item : goal.returns-else-at-count-clause-item
returns-else-at-count-clause-item g c =
    let tuples = g.C.Constants.items_of c.args.consts.now in
    let h = c.args.arena.now in
    let at = c.args.at in
    let xs = items_in tuples h c.in-Joined.left in
    let ys = items_in tuples h c.in-Joined.right in
    let count : c.item_count-count.result ≡ length xs = c.item_count-count.ensures in
    let whole = sym (ap (λ (s : Source). get_or (source_items tuples h s) at values.None) c.in-Joined.is) in
    let past : length xs ≤ at = omega (arith, count, c.if-at-count.false) in
    read_value ys (at - c.item_count-count.result) c.item_at-else-at-count.result c.item_at-else-at-count.ensures.item
    ∙ (ap (λ (n : ℕ). get_or ys (at - n) values.None) count ∙ (sym (get_or-append_right xs ys (length xs) at values.None refl past) ∙ whole))

pub returns-in-Repeated-clause-item : goal.returns-in-Repeated-clause-item
returns-in-Repeated-clause-item g c =
    let tuples = g.C.Constants.items_of c.args.consts.now in
    let h = c.args.arena.now in
    let items = items_in tuples h c.in-Repeated.of in
    let within : c.args.at < length (repeat c.in-Repeated.field-0 items) = subst (λ (s : Source). c.args.at < length (source_items tuples h s)) c.in-Repeated.is c.requires.within in
    let read = repeat_at items c.in-Repeated.field-0 c.args.at values.None within in
    let count : c.item_count-count-in-Repeated.result ≡ length items = c.item_count-count-in-Repeated.ensures in
    read_value items (c.args.at % c.item_count-count-in-Repeated.result) c.item_at-in-Repeated.result c.item_at-in-Repeated.ensures.item
    ∙ (ap (λ (n : ℕ). get_or items (c.args.at % n) values.None) count ∙ (sym read.1 ∙ sym (ap (λ (s : Source). get_or (source_items tuples h s) c.args.at values.None) c.in-Repeated.is)))
