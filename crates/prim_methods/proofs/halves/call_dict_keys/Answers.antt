use Rattle.std.proofs.Common.{length, refl}
use Rattle.mpy_base.specs.declared.builtin.Builtin.TheVariants as builtins
use Rattle.mpy_base.specs.World.{pairs_at}
use Rattle.prim_builtins.specs.py_primitives.Calls.{Exactly}
use Rattle.prim_assignments.specs.prim_walks.Plain.{plain, plain_heap}
use Rattle.prim_builtins.proofs.Calls.{method_refused}
use Rattle.prim_methods.proofs.MethodCalls.{exactly, is_dict, dict_done}
use Rattle.prim_methods.proofs.DictHalves.{keys_plain, listed}
use Rattle.prim_methods.proofs.halves.call_dict_keys.Goals as goal

pub make_half-requires-clause-dict : goal.make_half-requires-clause-dict
make_half-requires-clause-dict g c = is_dict c.args.arena.now.objects c.args.object c.dict_number-d.result c.dict_number-d.ensures c.requires.leads

pub returns-in-Ok : goal.returns-in-Ok
returns-in-Ok g c =
    let texts = g.C.Constants.text_of c.args.consts.now in
    let tuples = g.C.Constants.items_of c.args.consts.now in
    let h = c.args.arena.now in
    let d = c.dict_number-d.result in
    dict_done texts tuples h builtins.DictKeys c.args.args.now c.args.keys.now c.args.object c.in-Ok.ensures.no_keywords (exactly 0 (length c.args.args.now) c.in-Ok.ensures.as_many) d
    c.dict_number-d.ensures c.requires.leads c.make_half.new.arena c.make_half.result
    (listed texts tuples h c.make_half.new.arena c.make_half.result (plain_heap texts tuples h) _ _ (keys_plain texts tuples (pairs_at h d.cell)) c.make_half.ensures)

pub returns-in-Err : goal.returns-in-Err
returns-in-Err g c =
    let texts = g.C.Constants.text_of c.args.consts.now in
    let tuples = g.C.Constants.items_of c.args.consts.now in
    method_refused texts tuples c.args.arena.now c.args.args.now c.args.keys.now builtins.DictKeys (plain texts tuples c.args.object) (Exactly 0) c.in-Err.fault c.requires.all_told c.in-Err.ensures.refused refl
