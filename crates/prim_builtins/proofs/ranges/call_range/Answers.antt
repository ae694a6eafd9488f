use Rattle.std.proofs.Common.{refl}
use Rattle.prim_operators.specs.mpy_base.declared.builtin.Builtin.TheVariants as builtins
use Rattle.prim_operators.specs.py_primitives.Calls.{Between}
use Rattle.prim_builtins.proofs.BoundsLeading.{bounds_lead}
use Rattle.prim_builtins.proofs.Calls.{refused}
use Rattle.prim_builtins.proofs.ranges.call_range.Goals as goal

pub with_bounds-requires-clause-leads : goal.with_bounds-requires-clause-leads
with_bounds-requires-clause-leads g c =
    let texts = g.C.Constants.text_of c.args.consts.now in
    let tuples = g.C.Constants.items_of c.args.consts.now in
    bounds_lead texts tuples c.args.arena.now.objects c.bounds_of.result c.args.args.now c.bounds_of.ensures c.requires.known

pub returns-in-Err : goal.returns-in-Err
returns-in-Err g c =
    let texts = g.C.Constants.text_of c.args.consts.now in
    let tuples = g.C.Constants.items_of c.args.consts.now in
    refused texts tuples c.args.arena.now c.args.args.now c.args.keys.now builtins.Range (Between 1 3) c.in-Err.fault c.requires.all_told c.in-Err.ensures.refused refl
