use Rattle.std.proofs.Common.{◌<◌, List, length, map, refl, sym, subst, arith}
use Rattle.mpy_base.specs.declared.builtin.Builtin.TheVariants as builtins
use Rattle.mpy_base.specs.World.{pairs_at}
use Rattle.prim_assignments.specs.arena_heap.declared.value.Value.{Value}
use Rattle.prim_assignments.specs.arena_heap.declared.value.Value.TheVariants as values
use Rattle.prim_builtins.specs.py_primitives.Calls.{Between}
use Rattle.prim_builtins.specs.py_primitives.Methods.{dict_method}
use Rattle.prim_assignments.specs.prim_walks.Plain.{plain, plain_pair, plain_heap}
use Rattle.prim_assignments.specs.prim_faults.Outcomes.{IsOutcome}
use Rattle.prim_builtins.proofs.Calls.{method_refused}
use Rattle.prim_methods.proofs.MethodCalls.{between, is_dict, dict_done, parted}
use Rattle.prim_methods.proofs.dict_pops.call_dict_pop.Goals as goal

pub pop_key-requires-clause-dict : goal.pop_key-requires-clause-dict
pop_key-requires-clause-dict g c = is_dict c.args.arena.now.objects c.args.object c.dict_number-d.result c.dict_number-d.ensures c.requires.leads

pub pop_key-requires-clause-leads : goal.pop_key-requires-clause-leads
pop_key-requires-clause-leads g c =
    let lt : 0 < length c.args.args.now = omega (arith, c.in-Ok.ensures.as_many.0) in
    (c.requires.known 0 values.None lt).leads

pub pop_key-requires-clause-told : goal.pop_key-requires-clause-told
pop_key-requires-clause-told g c =
    let lt : 0 < length c.args.args.now = omega (arith, c.in-Ok.ensures.as_many.0) in
    (c.requires.known 0 values.None lt).told

pub returns-in-Err : goal.returns-in-Err
returns-in-Err g c =
    let texts = g.C.Constants.text_of c.args.consts.now in
    let tuples = g.C.Constants.items_of c.args.consts.now in
    method_refused texts tuples c.args.arena.now c.args.args.now c.args.keys.now builtins.DictPop (plain texts tuples c.args.object) (Between 1 2) c.in-Err.fault c.requires.all_told c.in-Err.ensures.refused refl

pub returns-in-Ok : goal.returns-in-Ok
returns-in-Ok g c =
    let texts = g.C.Constants.text_of c.args.consts.now in
    let tuples = g.C.Constants.items_of c.args.consts.now in
    let h = c.args.arena.now in
    let d = c.dict_number-d.result in
    let args = c.args.args.now in
    let some : 0 < length args = omega (arith, c.in-Ok.ensures.as_many.0) in
    let fits = between 1 2 (length args) (c.in-Ok.ensures.as_many.0) (c.in-Ok.ensures.as_many.1) in
    dict_done texts tuples h builtins.DictPop args c.args.keys.now c.args.object c.in-Ok.ensures.no_keywords fits d c.dict_number-d.ensures c.requires.leads c.pop_key.new.arena c.pop_key.result
    (subst (λ (vs : List Value). IsOutcome texts tuples h c.pop_key.new.arena c.pop_key.result (dict_method (plain_heap texts tuples h) builtins.DictPop d.cell (map (plain_pair texts tuples) (pairs_at h d.cell)) (map (plain texts tuples) vs)))
    (sym (parted args values.None some)) c.pop_key.ensures)
