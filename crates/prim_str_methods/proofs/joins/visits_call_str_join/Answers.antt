use Rattle.std.proofs.Common.{refl, ap, arith}
use Rattle.mpy_base.specs.declared.builtin.Builtin.TheVariants as builtins
use Rattle.mpy_base.specs.Val.{Val}
use Rattle.prim_builtins.specs.arena_objects.Iterables.{spelled}
use Rattle.prim_builtins.specs.py_primitives.Iterables.{items_in}
use Rattle.prim_builtins.specs.py_primitives.Outcome.{Outcome}
use Rattle.prim_builtins.specs.prim_walks.Plain.{plain, plain_heap}
use Rattle.prim_builtins.proofs.Calls.{one_known}
use Rattle.prim_str_methods.proofs.StrCalls.{str_call}
use Rattle.prim_str_methods.proofs.JoinOutcomes.{join_visits}
use Rattle.prim_str_methods.proofs.joins.visits_call_str_join.Goals as goal

pub visits_of-requires-clause-over : goal.visits_of-requires-clause-over
visits_of-requires-clause-over g c =
    let texts = g.C.Constants.text_of c.args.consts.now in
    let tuples = g.C.Constants.items_of c.args.consts.now in
    let h = c.args.arena.now in
    one_known texts tuples h c.args.args.now c.in-Ok.v c.in-Ok.ensures.given c.requires.known

pub returns-in-Ok : goal.returns-in-Ok
returns-in-Ok g c =
    let texts = g.C.Constants.text_of c.args.consts.now in
    let tuples = g.C.Constants.items_of c.args.consts.now in
    let h = c.args.arena.now in
    let heap = plain_heap texts tuples h in
    let v = plain texts tuples c.in-Ok.v in
    let call = ap (λ (o : Outcome Val). o.visits) (str_call texts tuples h builtins.StrJoin c.args.object c.args.args.now c.args.keys.now c.in-Ok.v c.requires.str c.requires.leads c.in-Ok.ensures.given c.in-Ok.ensures.no_keywords refl) in
    let walk = join_visits heap v (spelled texts h c.args.object) (items_in heap v) in
    omega (arith, c.visits_of.ensures, call, walk)

pub returns-in-Err : goal.returns-in-Err
returns-in-Err g c =
    let texts = g.C.Constants.text_of c.args.consts.now in
    let tuples = g.C.Constants.items_of c.args.consts.now in
    let h = c.args.arena.now in
    let none = ap (λ (o : Outcome Val). o.visits) (c.in-Err.ensures.refused.method_raised texts tuples h builtins.StrJoin (plain texts tuples c.args.object) refl) in
    omega (arith, none)
