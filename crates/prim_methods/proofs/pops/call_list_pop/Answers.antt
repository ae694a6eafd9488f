use Rattle.std.proofs.Common.{length, refl}
use Rattle.mpy_base.specs.declared.builtin.Builtin.TheVariants as builtins
use Rattle.prim_builtins.specs.py_primitives.Calls.{Between}
use Rattle.prim_assignments.specs.prim_walks.Plain.{plain}
use Rattle.prim_builtins.proofs.Calls.{method_refused}
use Rattle.prim_methods.proofs.MethodCalls.{between, is_list, list_done}
use Rattle.prim_methods.proofs.pops.call_list_pop.Goals as goal

pub pop-requires-clause-list : goal.pop-requires-clause-list
pop-requires-clause-list g c = is_list c.args.arena.now.objects c.args.object c.list_number-l.result c.list_number-l.ensures c.requires.leads

pub returns-in-Ok : goal.returns-in-Ok
returns-in-Ok g c =
    let texts = g.C.Constants.text_of c.args.consts.now in
    let tuples = g.C.Constants.items_of c.args.consts.now in
    let fits = between 0 1 (length c.args.args.now) (c.in-Ok.ensures.as_many.0) (c.in-Ok.ensures.as_many.1) in
    list_done texts tuples c.args.arena.now builtins.ListPop c.args.args.now c.args.keys.now c.args.object c.in-Ok.ensures.no_keywords fits c.list_number-l.result
    c.list_number-l.ensures c.requires.leads c.pop.new.arena c.pop.result c.pop.ensures

pub returns-in-Err : goal.returns-in-Err
returns-in-Err g c =
    let texts = g.C.Constants.text_of c.args.consts.now in
    let tuples = g.C.Constants.items_of c.args.consts.now in
    method_refused texts tuples c.args.arena.now c.args.args.now c.args.keys.now builtins.ListPop (plain texts tuples c.args.object) (Between 0 1) c.in-Err.fault c.requires.all_told c.in-Err.ensures.refused refl
