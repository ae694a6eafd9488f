use Rattle.std.proofs.Common.{length, map, refl}
use Rattle.mpy_base.specs.declared.builtin.Builtin.TheVariants as builtins
use Rattle.mpy_base.specs.World.{pairs_at}
use Rattle.prim_builtins.specs.py_primitives.Calls.{Exactly}
use Rattle.prim_builtins.specs.py_primitives.Outcome.{list_of}
use Rattle.prim_builtins.specs.py_primitives.Methods.{making_pairs}
use Rattle.prim_assignments.specs.prim_walks.Plain.{plain, plain_pair, plain_heap}
use Rattle.prim_builtins.proofs.Calls.{method_refused}
use Rattle.prim_methods.proofs.MethodCalls.{exactly, is_dict, dict_done}
use Rattle.prim_methods.proofs.DictHalves.{with_any_visits}
use Rattle.prim_methods.proofs.dict_items.call_dict_items.Goals as goal

pub make_items-requires-clause-dict : goal.make_items-requires-clause-dict
make_items-requires-clause-dict g c = is_dict c.args.arena.now.objects c.args.object c.dict_number-d.result c.dict_number-d.ensures c.requires.leads

pub returns-in-Ok : goal.returns-in-Ok
returns-in-Ok g c =
    let texts = g.C.Constants.text_of c.args.consts.now in
    let tuples = g.C.Constants.items_of c.args.consts.now in
    let h = c.args.arena.now in
    let d = c.dict_number-d.result in
    dict_done texts tuples h builtins.DictItems c.args.args.now c.args.keys.now c.args.object c.in-Ok.ensures.no_keywords (exactly 0 (length c.args.args.now) c.in-Ok.ensures.as_many) d
    c.dict_number-d.ensures c.requires.leads c.make_items.new.arena c.make_items.result
    (let heap = plain_heap texts tuples h in
    let pairs = map (plain_pair texts tuples) (pairs_at h d.cell) in
    with_any_visits texts tuples h c.make_items.new.arena c.make_items.result (list_of heap (length pairs) (λ behind. making_pairs behind pairs)) (length pairs) c.make_items.ensures)

pub returns-in-Err : goal.returns-in-Err
returns-in-Err g c =
    let texts = g.C.Constants.text_of c.args.consts.now in
    let tuples = g.C.Constants.items_of c.args.consts.now in
    method_refused texts tuples c.args.arena.now c.args.args.now c.args.keys.now builtins.DictItems (plain texts tuples c.args.object) (Exactly 0) c.in-Err.fault c.requires.all_told c.in-Err.ensures.refused refl
