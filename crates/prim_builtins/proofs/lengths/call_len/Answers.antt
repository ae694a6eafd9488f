use Rattle.std.proofs.Common.{refl}
use Rattle.prim_operators.specs.mpy_base.declared.builtin.Builtin.TheVariants as builtins
use Rattle.prim_operators.specs.py_primitives.Calls.{Exactly}
use Rattle.prim_builtins.proofs.Calls.{one_known, refused}
use Rattle.prim_builtins.proofs.lengths.call_len.Goals as goal

pub len_of-requires-clause-leads : goal.len_of-requires-clause-leads
len_of-requires-clause-leads g c =
    let texts = g.C.Constants.text_of c.args.consts.now in
    let tuples = g.C.Constants.items_of c.args.consts.now in
    (one_known texts tuples c.args.arena.now c.args.args.now c.in-Ok.v c.in-Ok.ensures.given c.requires.known).leads

pub returns-in-Err : goal.returns-in-Err
returns-in-Err g c =
    let texts = g.C.Constants.text_of c.args.consts.now in
    let tuples = g.C.Constants.items_of c.args.consts.now in
    refused texts tuples c.args.arena.now c.args.args.now c.args.keys.now builtins.Len (Exactly 1) c.in-Err.fault c.requires.all_told c.in-Err.ensures.refused refl
