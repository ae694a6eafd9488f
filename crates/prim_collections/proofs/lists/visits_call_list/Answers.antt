use Rattle.std.proofs.Common.{◌≡◌, map, refl, ap, subst, arith}
use Rattle.prim_builtins.specs.mpy_base.declared.builtin.Builtin.TheVariants as builtins
use Rattle.prim_builtins.specs.mpy_base.Val.{Val}
use Rattle.prim_builtins.specs.py_primitives.Outcome.{Outcome}
use Rattle.prim_builtins.specs.py_primitives.Calls.{call}
use Rattle.prim_builtins.specs.prim_walks.Plain.{plain, plain_pair, plain_heap}
use Rattle.prim_collections.specs.Collected.{AreOptional}
use Rattle.prim_collections.proofs.Visits.{list_called}
use Rattle.prim_collections.proofs.lists.visits_call_list.Goals as goal

pub returns-in-Ok-Some : goal.returns-in-Ok-Some
returns-in-Ok-Some g c =
    let texts = g.C.Constants.text_of c.args.consts.now in
    let tuples = g.C.Constants.items_of c.args.consts.now in
    let h = c.args.arena.now in
    let all = list_called texts tuples h c.args.args.now c.args.keys.now c.in-Ok-Some.ensures.no_keywords c.in-Ok-Some.v (subst (AreOptional c.args.args.now) c.in-Ok-Some.field-0-is c.in-Ok-Some.ensures.given) in
    omega (arith, all, c.min.ensures, c.length_of.ensures)

pub returns-in-Err : goal.returns-in-Err
returns-in-Err g c =
    let texts = g.C.Constants.text_of c.args.consts.now in
    let tuples = g.C.Constants.items_of c.args.consts.now in
    let h = c.args.arena.now in
    let none : (call (plain_heap texts tuples h) builtins.List (map (plain texts tuples) c.args.args.now) (map (plain_pair texts tuples) c.args.keys.now)).visits ≡ 0 = ap (λ (o : Outcome Val). o.visits) (c.in-Err.ensures.refused.raised texts tuples h builtins.List refl) in
    omega (arith, none)
