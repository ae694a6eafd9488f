use Rattle.prim_methods.proofs.MethodCalls.{then_nothing, then_stopped}
use Rattle.prim_assignments.specs.prim_walks.Plain.{plain, plain_heap}
use Rattle.prim_builtins.specs.py_primitives.Operators.{extend}
use Rattle.prim_methods.proofs.extends.extend_only.Goals as goal

pub returns-in-Ok : goal.returns-in-Ok
returns-in-Ok g c =
    let texts = g.C.Constants.text_of c.args.consts.now in
    let tuples = g.C.Constants.items_of c.args.consts.now in
    let h = c.args.arena.now in
    then_nothing texts tuples h c.extend_list.new.arena (extend (plain_heap texts tuples h) c.args.l.cell (plain texts tuples c.args.from)) _ c.in-Ok.ensures

pub returns-in-Err : goal.returns-in-Err
returns-in-Err g c =
    let texts = g.C.Constants.text_of c.args.consts.now in
    let tuples = g.C.Constants.items_of c.args.consts.now in
    let h = c.args.arena.now in
    then_stopped texts tuples h c.extend_list.new.arena (extend (plain_heap texts tuples h) c.args.l.cell (plain texts tuples c.args.from)) c.in-Err.stop c.in-Err.ensures
