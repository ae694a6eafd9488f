use Rattle.std.proofs.Common.{sym, subst}
use Rattle.prim_faults.specs.mpy_base.Val.{Val}
use Rattle.prim_faults.specs.py_primitives.Outcome.{Outcome}
use Rattle.prim_faults.specs.py_primitives.Iterables.{item_of}
use Rattle.prim_faults.specs.prim_walks.Plain.{plain, plain_heap}
use Rattle.prim_faults.specs.Outcomes.{IsOutcome}
use Rattle.prim_faults.proofs.Outcomes.{raises_outcome}
use Rattle.prim_operators.proofs.indexes.get_place.Goals as goal

pub returns-in-Ok : goal.returns-in-Ok
returns-in-Ok g c =
    let texts = g.C.Constants.text_of c.args.consts.now in
    let tuples = g.C.Constants.items_of c.args.consts.now in
    let h = c.args.arena.now in
    let heap = plain_heap texts tuples h in
    subst (λ (o : Outcome Val). IsOutcome texts tuples h c.item_of.new.arena c.item_of.result o)
    (sym (c.in-Ok.ensures.place.follows (item_of heap (plain texts tuples c.args.object)))) c.item_of.ensures

pub returns-in-Err : goal.returns-in-Err
returns-in-Err g c =
    let texts = g.C.Constants.text_of c.args.consts.now in
    let tuples = g.C.Constants.items_of c.args.consts.now in
    let h = c.args.arena.now in
    let heap = plain_heap texts tuples h in
    raises_outcome texts tuples h c.in-Err.fault _ c.requires.all_told c.in-Err.ensures.fault.known
    (c.in-Err.ensures.fault.follows (item_of heap (plain texts tuples c.args.object)))
