use Rattle.std.proofs.Common.{List, length, sym, ap, ◌∙◌}
use Rattle.prim_operators.specs.arena_heap.declared.value.Value.{Value}
use Rattle.prim_assignments.proofs.Iterated.{iterated}
use Rattle.prim_assignments.proofs.Unpacked.{other_has_items, items_count, items_slots}
use Rattle.prim_assignments.proofs.unpacking.unpack_items.Goals as goal

pub fill_items-requires-clause-count : goal.fill_items-requires-clause-count
fill_items-requires-clause-count g c =
    let texts = g.C.Constants.text_of c.args.consts.now in
    let tuples = g.C.Constants.items_of c.args.consts.now in
    let h = c.args.arena.now in
    let all = iterated texts tuples h c.args.over c.requires.leads c.items_law.ensures.nested c.requires.iterable in
    let none = other_has_items texts tuples h c.args.over c.in_default.not-Str c.in_default.not-Text in
    items_count texts tuples h c.args.over c.requires.all_told all none (length c.args.slots.now) c.requires.count

pub returns-in_default : goal.returns-in_default
returns-in_default g c =
    let texts = g.C.Constants.text_of c.args.consts.now in
    let tuples = g.C.Constants.items_of c.args.consts.now in
    let h = c.args.arena.now in
    let all = iterated texts tuples h c.args.over c.requires.leads c.items_law.ensures.nested c.requires.iterable in
    let none = other_has_items texts tuples h c.args.over c.in_default.not-Str c.in_default.not-Text in
    let want = length c.args.slots.now in
    let count = items_count texts tuples h c.args.over c.requires.all_told all none want c.requires.count in
    record {
      outcome = items_slots texts tuples h c.args.over c.requires.all_told all none want c.fill_items.new.slots c.requires.count c.room_law.ensures.fits c.fill_items.ensures.filled c.fill_items.ensures.known;
      count = ap (λ (xs : List Value). length xs) c.fill_items.ensures.filled ∙ sym count;
      unchanged = tt;
    }
