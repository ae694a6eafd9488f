use Rattle.std.proofs.Common.{◌≡◌, Err, sym, ◌∙◌, subst}
use Rattle.prim_operators.specs.mpy_base.Val.{Val}
use Rattle.prim_operators.specs.py_primitives.Outcome.{Outcome, gives}
use Rattle.prim_operators.specs.py_primitives.Iterables.{use_iter, items_in}
use Rattle.prim_operators.specs.py_primitives.Operators.{extended_by, extend}
use Rattle.prim_operators.specs.prim_walks.Plain.{plain, plain_heap}
use Rattle.prim_operators.specs.prim_faults.Outcomes.{IsOutcome}
use Rattle.prim_assignments.proofs.Iterated.{iterable_by, raised_by}
use Rattle.prim_assignments.proofs.extensions.extend_list.Goals as goal

pub take_items-requires-clause-iterable : goal.take_items-requires-clause-iterable
take_items-requires-clause-iterable g c =
    let texts = g.C.Constants.text_of c.args.consts.now in
    let tuples = g.C.Constants.items_of c.args.consts.now in
    let heap = plain_heap texts tuples c.args.arena.now in
    iterable_by heap (plain texts tuples c.args.from) _ _ c.in-Ok.ensures.answer

pub returns-in-Err : goal.returns-in-Err
returns-in-Err g c =
    let texts = g.C.Constants.text_of c.args.consts.now in
    let tuples = g.C.Constants.items_of c.args.consts.now in
    let h = c.args.arena.now in
    let heap = plain_heap texts tuples h in
    let v = plain texts tuples c.args.from in
    let same : use_iter heap v ≡ extend heap c.args.l.cell v =
    raised_by heap v (items_in heap v) _ (λ items. gives v heap) c.in-Err.ensures.answer ∙ sym (raised_by heap v (items_in heap v) _ (extended_by heap c.args.l.cell v) c.in-Err.ensures.answer) in
    subst (λ (o : Outcome Val). IsOutcome texts tuples h h (Err c.in-Err.stop) o) same c.in-Err.ensures
