use Rattle.std.proofs.Common.{refl}
use Rattle.prim_builtins.specs.mpy_base.declared.builtin.Builtin.TheVariants as builtins
use Rattle.prim_builtins.specs.py_primitives.Calls.{Between}
use Rattle.prim_builtins.proofs.Calls.{refused}
use Rattle.prim_collections.proofs.tuples.call_tuple.Goals as goal

pub returns-in-Err : goal.returns-in-Err
returns-in-Err g c =
    let texts = g.C.Constants.text_of c.args.consts.now in
    let tuples = g.C.Constants.items_of c.args.consts.now in
    refused texts tuples c.args.arena.now c.args.args.now c.args.keys.now builtins.Tuple (Between 0 1) c.in-Err.fault c.requires.all_told c.in-Err.ensures.refused refl
