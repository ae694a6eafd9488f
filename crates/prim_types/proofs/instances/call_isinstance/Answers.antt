use Rattle.std.proofs.Common.{refl}
use Rattle.mpy_base.specs.declared.builtin.Builtin.TheVariants as builtins
use Rattle.prim_builtins.specs.py_primitives.Calls.{Exactly}
use Rattle.prim_builtins.proofs.Calls.{refused}
use Rattle.prim_types.proofs.TwoArguments.{both_known, two_called}
use Rattle.prim_types.proofs.instances.call_isinstance.Goals as goal

pub isinstance_of-requires-clause-leads : goal.isinstance_of-requires-clause-leads
isinstance_of-requires-clause-leads g c =
    let texts = g.C.Constants.text_of c.args.consts.now in
    let tuples = g.C.Constants.items_of c.args.consts.now in
    let h = c.args.arena.now in
    (both_known texts tuples h c.args.args.now _ _ c.two_arguments-v.ensures c.requires.known).0.leads

pub isinstance_of-requires-clause-types_lead : goal.isinstance_of-requires-clause-types_lead
isinstance_of-requires-clause-types_lead g c =
    let texts = g.C.Constants.text_of c.args.consts.now in
    let tuples = g.C.Constants.items_of c.args.consts.now in
    let h = c.args.arena.now in
    (both_known texts tuples h c.args.args.now _ _ c.two_arguments-v.ensures c.requires.known).1.leads

pub isinstance_of-requires-clause-types_told : goal.isinstance_of-requires-clause-types_told
isinstance_of-requires-clause-types_told g c =
    let texts = g.C.Constants.text_of c.args.consts.now in
    let tuples = g.C.Constants.items_of c.args.consts.now in
    let h = c.args.arena.now in
    (both_known texts tuples h c.args.args.now _ _ c.two_arguments-v.ensures c.requires.known).1.told

pub returns-in-Ok : goal.returns-in-Ok
returns-in-Ok g c =
    let texts = g.C.Constants.text_of c.args.consts.now in
    let tuples = g.C.Constants.items_of c.args.consts.now in
    let h = c.args.arena.now in
    two_called texts tuples h c.args.args.now _ _ c.two_arguments-v.ensures c.args.keys.now builtins.IsInstance h _ c.in-Ok.ensures.no_keywords refl c.isinstance_of.ensures

pub returns-in-Err : goal.returns-in-Err
returns-in-Err g c =
    let texts = g.C.Constants.text_of c.args.consts.now in
    let tuples = g.C.Constants.items_of c.args.consts.now in
    let h = c.args.arena.now in
    refused texts tuples h c.args.args.now c.args.keys.now builtins.IsInstance (Exactly 2) c.in-Err.fault c.requires.all_told c.in-Err.ensures.refused refl
