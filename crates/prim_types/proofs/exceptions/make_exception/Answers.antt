use Rattle.std.proofs.Common.{[], map}
use Rattle.mpy_base.specs.World.{ExceptionObject}
use Rattle.mpy_base.specs.Val.{Val}
use Rattle.prim_builtins.specs.py_values.Shown.{PlainHeap}
use Rattle.prim_builtins.specs.py_primitives.Outcome.{Outcome, making, making_tuple}
use Rattle.prim_builtins.specs.prim_walks.Plain.{plain, plain_heap}
use Rattle.prim_types.proofs.Followed.{followed, stopped}
use Rattle.prim_types.proofs.exceptions.make_exception.Goals as goal

pub returns-in-Ok : goal.returns-in-Ok
returns-in-Ok g c =
    let texts = g.C.Constants.text_of c.args.consts.now in
    let tuples = g.C.Constants.items_of c.args.consts.now in
    let h = c.args.arena.now in
    let heap = plain_heap texts tuples h in
    let mid = c.make_tuple.new.arena in
    let next : Val → PlainHeap → Outcome Val = λ args behind. making behind (ExceptionObject c.args.kind args [] 0 []) in
    followed texts tuples h mid (making_tuple heap (map (plain texts tuples) c.args.args.now)) next c.make_raised.new.arena c.in-Ok.tuple c.make_raised.result c.in-Ok.ensures.outcome c.make_raised.ensures

pub returns-in-Err : goal.returns-in-Err
returns-in-Err g c =
    let texts = g.C.Constants.text_of c.args.consts.now in
    let tuples = g.C.Constants.items_of c.args.consts.now in
    let h = c.args.arena.now in
    let heap = plain_heap texts tuples h in
    let mid = c.make_tuple.new.arena in
    let next : Val → PlainHeap → Outcome Val = λ args behind. making behind (ExceptionObject c.args.kind args [] 0 []) in
    stopped texts tuples h mid (making_tuple heap (map (plain texts tuples) c.args.args.now)) next c.in-Err.stop c.in-Err.ensures.outcome
