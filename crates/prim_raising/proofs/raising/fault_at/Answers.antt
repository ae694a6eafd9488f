use Rattle.std.proofs.Common.{refl}
use Rattle.prim_types.specs.py_primitives.Outcome.{making_fault}
use Rattle.prim_types.specs.prim_walks.Plain.{plain_heap}
use Rattle.prim_types.specs.prim_faults.Faults.{plain_fault}
use Rattle.prim_raising.proofs.Failures.{thrown, filled}
use Rattle.prim_raising.proofs.raising.fault_at.Goals as goal

pub returns-in-Ok : goal.returns-in-Ok
returns-in-Ok g c =
    let texts = g.C.Constants.text_of c.args.consts.now in
    let tuples = g.C.Constants.items_of c.args.consts.now in
    let h = c.args.arena.now in
    thrown texts tuples h c.make_fault.new.arena c.args.place (making_fault (plain_heap texts tuples h) (plain_fault texts tuples h c.args.fault)) _ (λ w. refl) c.put_place.new.arena c.in-Ok.x c.in-Ok.ensures c.put_place.ensures.placed c.put_place.ensures.later

pub returns-in-Err : goal.returns-in-Err
returns-in-Err g c =
    let texts = g.C.Constants.text_of c.args.consts.now in
    let tuples = g.C.Constants.items_of c.args.consts.now in
    let h = c.args.arena.now in
    filled texts tuples h c.make_fault.new.arena c.args.place (making_fault (plain_heap texts tuples h) (plain_fault texts tuples h c.args.fault)) _ (λ w. refl) c.in-Err.room c.in-Err.ensures
