use Rattle.std.proofs.Common.{length, map, refl, ap, arith}
use Rattle.std.proofs.lemmas.List.{length-map}
use Rattle.mpy_base.specs.World.{pairs_at}
use Rattle.mpy_base.specs.declared.builtin.Builtin.TheVariants as builtins
use Rattle.mpy_base.specs.Val.{Val}
use Rattle.prim_builtins.specs.py_primitives.Outcome.{Outcome}
use Rattle.prim_assignments.specs.prim_walks.Plain.{plain, plain_pair, plain_heap}
use Rattle.prim_methods.proofs.MethodCalls.{exactly, dict_called}
use Rattle.prim_methods.proofs.Visits.{items_visits}
use Rattle.prim_methods.proofs.dict_items.visits_call_dict_items.Goals as goal

pub returns-in-Err : goal.returns-in-Err
returns-in-Err g c =
    let texts = g.C.Constants.text_of c.args._consts.now in
    let tuples = g.C.Constants.items_of c.args._consts.now in
    let raised = ap (λ (o : Outcome Val). o.visits) (c.in-Err.ensures.refused.method_raised texts tuples c.args.arena.now builtins.DictItems (plain texts tuples c.args.object) refl) in
    omega (arith, raised)

pub returns-in-Ok : goal.returns-in-Ok
returns-in-Ok g c =
    let texts = g.C.Constants.text_of c.args._consts.now in
    let tuples = g.C.Constants.items_of c.args._consts.now in
    let h = c.args.arena.now in
    let heap = plain_heap texts tuples h in
    let d = c.dict_number-d.result in
    let pairs = map (plain_pair texts tuples) (pairs_at h d.cell) in
    let called = ap (λ (o : Outcome Val). o.visits)
    (dict_called texts tuples h builtins.DictItems c.args.args.now c.args.keys.now c.args.object c.in-Ok.ensures.no_keywords (exactly 0 (length c.args.args.now) c.in-Ok.ensures.as_many) d c.dict_number-d.ensures c.requires.leads) in
    omega (arith, called, items_visits heap pairs, length-map (pairs_at h d.cell) (plain_pair texts tuples), c.dict_len.ensures, c.min.ensures)
