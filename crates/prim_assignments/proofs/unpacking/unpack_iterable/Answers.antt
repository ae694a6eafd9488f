use Rattle.std.proofs.Common.{length}
use Rattle.prim_assignments.proofs.Iterated.{iterated}
use Rattle.prim_assignments.proofs.Unpacked.{raised_slots, unpacks_more, unpacks_fewer}
use Rattle.prim_assignments.proofs.unpacking.unpack_iterable.Goals as goal

pub returns-then-have-want-clause-outcome : goal.returns-then-have-want-clause-outcome
returns-then-have-want-clause-outcome g c =
    let texts = g.C.Constants.text_of c.args.consts.now in
    let tuples = g.C.Constants.items_of c.args.consts.now in
    let h = c.args.arena.now in
    let all = iterated texts tuples h c.args.over c.requires.leads c.items_law.ensures.nested c.requires.iterable in
    raised_slots texts tuples h c.args.slots.now _ _ c.requires.all_told tt
    (unpacks_more texts tuples h c.args.over c.requires.all_told all c.count_of-have.result (length c.args.slots.now) c.count_of-have.ensures c.if-have-want.true)

pub returns-then-want-have-clause-outcome : goal.returns-then-want-have-clause-outcome
returns-then-want-have-clause-outcome g c =
    let texts = g.C.Constants.text_of c.args.consts.now in
    let tuples = g.C.Constants.items_of c.args.consts.now in
    let h = c.args.arena.now in
    let all = iterated texts tuples h c.args.over c.requires.leads c.items_law.ensures.nested c.requires.iterable in
    raised_slots texts tuples h c.args.slots.now _ _ c.requires.all_told tt
    (unpacks_fewer texts tuples h c.args.over c.requires.all_told all c.count_of-have.result (length c.args.slots.now) c.count_of-have.ensures c.if-want-have.true)
