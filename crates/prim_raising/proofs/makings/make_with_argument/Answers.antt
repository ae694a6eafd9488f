use Rattle.std.proofs.Common.{[], ◌∷◌}
use Rattle.prim_types.specs.arena_heap.declared.value.Value.TheVariants as values
use Rattle.mpy_base.specs.World.{ExceptionObject}
use Rattle.mpy_base.specs.Val.{Val}
use Rattle.prim_types.specs.py_values.Shown.{PlainHeap}
use Rattle.prim_types.specs.py_primitives.Outcome.{Outcome, making, making_tuple}
use Rattle.prim_types.specs.prim_walks.Plain.{plain, plain_heap}
use Rattle.prim_types.specs.prim_faults.declared.stop.Stop.TheVariants as stops
use Rattle.prim_types.proofs.Followed.{followed, stopped}
use Rattle.prim_raising.specs.Makings.{as_value}
use Rattle.prim_raising.proofs.makings.make_with_argument.Goals as goal

pub returns-in-Ok : goal.returns-in-Ok
returns-in-Ok g c =
    let texts = g.C.Constants.text_of c.args.consts.now in
    let tuples = g.C.Constants.items_of c.args.consts.now in
    let h = c.args.arena.now in
    let next : Val → PlainHeap → Outcome Val = λ args behind. making behind (ExceptionObject c.args.kind args [] 0 []) in
    followed texts tuples h c.make_single.new.arena (making_tuple (plain_heap texts tuples h) (plain texts tuples c.args.v ∷ [])) next c.make_exception.new.arena (values.Tuple c.in-Ok.t) (as_value (λ x. values.Exc x) c.make_exception.result)
    c.in-Ok.ensures c.make_exception.ensures

pub returns-in-Err : goal.returns-in-Err
returns-in-Err g c =
    let texts = g.C.Constants.text_of c.args.consts.now in
    let tuples = g.C.Constants.items_of c.args.consts.now in
    let h = c.args.arena.now in
    let next : Val → PlainHeap → Outcome Val = λ args behind. making behind (ExceptionObject c.args.kind args [] 0 []) in
    stopped texts tuples h c.make_single.new.arena (making_tuple (plain_heap texts tuples h) (plain texts tuples c.args.v ∷ [])) next (stops.Full c.in-Err.room) c.in-Err.ensures
