use Rattle.prim_operators.specs.prim_walks.Plain.{plain, plain_heap}
use Rattle.prim_assignments.proofs.Iterated.{iterable_by}
use Rattle.prim_assignments.proofs.Unpacked.{iter_slots}
use Rattle.prim_assignments.proofs.unpacking.unpack.Goals as goal
use Rattle.std.proofs.Common.{length}

pub unpack_iterable-requires-clause-iterable : goal.unpack_iterable-requires-clause-iterable
unpack_iterable-requires-clause-iterable g c =
    let texts = g.C.Constants.text_of c.args.consts.now in
    let tuples = g.C.Constants.items_of c.args.consts.now in
    let heap = plain_heap texts tuples c.args.arena.now in
    iterable_by heap (plain texts tuples c.args.over) _ _ c.in-Ok.ensures.answer

pub returns-in-Err-clause-outcome : goal.returns-in-Err-clause-outcome
returns-in-Err-clause-outcome g c =
    let texts = g.C.Constants.text_of c.args.consts.now in
    let tuples = g.C.Constants.items_of c.args.consts.now in
    iter_slots texts tuples c.args.arena.now c.args.slots.now (length c.args.slots.now) (plain texts tuples c.args.over) c.in-Err.stop c.in-Err.ensures
