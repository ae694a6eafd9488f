use Rattle.std.proofs.Common.{◌≡◌, map, refl, ap, arith}
use Rattle.prim_builtins.specs.mpy_base.declared.builtin.Builtin.TheVariants as builtins
use Rattle.prim_builtins.specs.mpy_base.Val.{Val}
use Rattle.prim_builtins.specs.py_primitives.Outcome.{Outcome}
use Rattle.prim_builtins.specs.py_primitives.Calls.{call}
use Rattle.prim_builtins.specs.prim_walks.Plain.{plain, plain_pair, plain_heap}
use Rattle.prim_collections.proofs.tuples.visits_call_tuple.Goals as goal

pub returns-in-Err : goal.returns-in-Err
returns-in-Err g c =
    let texts = g.C.Constants.text_of c.args.consts.now in
    let tuples = g.C.Constants.items_of c.args.consts.now in
    let h = c.args.arena.now in
    let none : (call (plain_heap texts tuples h) builtins.Tuple (map (plain texts tuples) c.args.args.now) (map (plain_pair texts tuples) c.args.keys.now)).visits ≡ 0 = ap (λ (o : Outcome Val). o.visits) (c.in-Err.ensures.refused.raised texts tuples h builtins.Tuple refl) in
    omega (arith, none)
