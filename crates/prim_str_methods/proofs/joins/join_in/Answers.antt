use Rattle.std.proofs.Common.{List, Err, sym, subst}
use Rattle.mpy_base.specs.Val.{Val}
use Rattle.prim_builtins.specs.arena_objects.Iterables.{spelled}
use Rattle.prim_builtins.specs.py_primitives.Outcome.{Outcome, after_walk}
use Rattle.prim_builtins.specs.py_primitives.Iterables.{items_in}
use Rattle.prim_builtins.specs.py_primitives.Methods.{parts_of, gives_joined}
use Rattle.prim_builtins.specs.prim_walks.Plain.{plain, plain_heap}
use Rattle.prim_builtins.specs.prim_faults.Outcomes.{IsOutcome, plain_stop}
use Rattle.prim_str_methods.proofs.JoinOutcomes.{iterated, iterated_not}
use Rattle.prim_str_methods.proofs.joins.join_in.Goals as goal

pub returns-in-Ok : goal.returns-in-Ok
returns-in-Ok g c =
    let texts = g.C.Constants.text_of c.args.consts.now in
    let tuples = g.C.Constants.items_of c.args.consts.now in
    let h = c.args.arena.now in
    let heap = plain_heap texts tuples h in
    let over = plain texts tuples c.args.over in
    let next : List Val → Outcome Val = λ items. after_walk heap (parts_of heap items) (gives_joined heap (spelled texts h c.args.separator)) in
    subst (λ (o : Outcome Val). IsOutcome texts tuples h c.join_strs.new.arena c.join_strs.result o)
    (sym (iterated heap over (plain texts tuples c.in-Ok.field-0) (items_in heap over) next c.in-Ok.ensures.answer)) c.join_strs.ensures

pub returns-in-Err : goal.returns-in-Err
returns-in-Err g c =
    let texts = g.C.Constants.text_of c.args.consts.now in
    let tuples = g.C.Constants.items_of c.args.consts.now in
    let h = c.args.arena.now in
    let heap = plain_heap texts tuples h in
    let over = plain texts tuples c.args.over in
    let next : List Val → Outcome Val = λ items. after_walk heap (parts_of heap items) (gives_joined heap (spelled texts h c.args.separator)) in
    subst (λ (o : Outcome Val). IsOutcome texts tuples h h (Err c.in-Err.stop) o)
    (iterated_not heap over (plain_stop texts tuples h c.in-Err.stop) (items_in heap over) next c.in-Err.ensures.answer) c.in-Err.ensures
