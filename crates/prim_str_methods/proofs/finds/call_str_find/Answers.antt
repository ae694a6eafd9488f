use Rattle.std.proofs.Common.{refl}
use Rattle.mpy_base.specs.declared.builtin.Builtin.TheVariants as builtins
use Rattle.prim_builtins.specs.py_primitives.Calls.{Exactly}
use Rattle.prim_builtins.specs.prim_walks.Plain.{plain}
use Rattle.prim_builtins.proofs.Calls.{one_known, method_refused}
use Rattle.prim_str_methods.proofs.StrCalls.{str_called}
use Rattle.prim_str_methods.proofs.finds.call_str_find.Goals as goal

pub find_in-requires-clause-leads : goal.find_in-requires-clause-leads
find_in-requires-clause-leads g c =
    let texts = g.C.Constants.text_of c.args.consts.now in
    let tuples = g.C.Constants.items_of c.args.consts.now in
    (one_known texts tuples c.args.arena.now c.args.args.now c.in-Ok.v c.in-Ok.ensures.given c.requires.known).leads

pub returns-in-Ok : goal.returns-in-Ok
returns-in-Ok g c =
    let texts = g.C.Constants.text_of c.args.consts.now in
    let tuples = g.C.Constants.items_of c.args.consts.now in
    let h = c.args.arena.now in
    str_called texts tuples h builtins.StrFind c.args.object c.args.args.now c.args.keys.now h c.in-Ok.v c.find_in.result c.requires.str c.requires.leads c.in-Ok.ensures.given c.in-Ok.ensures.no_keywords refl
    c.find_in.ensures

pub returns-in-Err : goal.returns-in-Err
returns-in-Err g c =
    let texts = g.C.Constants.text_of c.args.consts.now in
    let tuples = g.C.Constants.items_of c.args.consts.now in
    method_refused texts tuples c.args.arena.now c.args.args.now c.args.keys.now builtins.StrFind (plain texts tuples c.args.object) (Exactly 1) c.in-Err.fault c.requires.all_told c.in-Err.ensures.refused refl
