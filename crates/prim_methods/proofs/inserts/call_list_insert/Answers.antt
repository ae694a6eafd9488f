use Rattle.std.proofs.Common.{◌<◌, List, length, map, refl, sym, subst, arith}
use Rattle.mpy_base.specs.declared.builtin.Builtin.TheVariants as builtins
use Rattle.mpy_base.specs.World.{items_at}
use Rattle.prim_assignments.specs.arena_heap.declared.value.Value.{Value}
use Rattle.prim_assignments.specs.arena_heap.declared.value.Value.TheVariants as values
use Rattle.prim_builtins.specs.py_primitives.Calls.{Exactly}
use Rattle.prim_builtins.specs.py_primitives.Methods.{list_method}
use Rattle.prim_assignments.specs.prim_walks.Plain.{plain, plain_heap}
use Rattle.prim_assignments.specs.prim_faults.Outcomes.{IsOutcome}
use Rattle.prim_builtins.proofs.Calls.{method_refused}
use Rattle.prim_methods.proofs.MethodCalls.{exactly, is_list, list_done, two_are}
use Rattle.prim_methods.proofs.inserts.call_list_insert.Goals as goal

pub insert-requires-clause-list : goal.insert-requires-clause-list
insert-requires-clause-list g c = is_list c.args.arena.now.objects c.args.object c.list_number-l.result c.list_number-l.ensures c.requires.leads

pub insert-requires-clause-index_leads : goal.insert-requires-clause-index_leads
insert-requires-clause-index_leads g c =
    let lt : 0 < length c.args.args.now = omega (arith, c.in-Ok.ensures.as_many) in
    (c.requires.known 0 values.None lt).leads

pub insert-requires-clause-leads : goal.insert-requires-clause-leads
insert-requires-clause-leads g c =
    let lt : 1 < length c.args.args.now = omega (arith, c.in-Ok.ensures.as_many) in
    (c.requires.known 1 values.None lt).leads

pub insert-requires-clause-told : goal.insert-requires-clause-told
insert-requires-clause-told g c =
    let lt : 1 < length c.args.args.now = omega (arith, c.in-Ok.ensures.as_many) in
    (c.requires.known 1 values.None lt).told

pub returns-in-Ok : goal.returns-in-Ok
returns-in-Ok g c =
    let texts = g.C.Constants.text_of c.args.consts.now in
    let tuples = g.C.Constants.items_of c.args.consts.now in
    let h = c.args.arena.now in
    let args = c.args.args.now in
    let l = c.list_number-l.result in
    list_done texts tuples h builtins.ListInsert args c.args.keys.now c.args.object c.in-Ok.ensures.no_keywords (exactly 2 (length args) c.in-Ok.ensures.as_many) l
    c.list_number-l.ensures c.requires.leads c.insert.new.arena c.insert.result
    (subst (λ (vs : List Value). IsOutcome texts tuples h c.insert.new.arena c.insert.result (list_method (plain_heap texts tuples h) builtins.ListInsert l.cell (map (plain texts tuples) (items_at h l.cell)) (map (plain texts tuples) vs)))
    (sym (two_are args values.None c.in-Ok.ensures.as_many)) c.insert.ensures)

pub returns-in-Err : goal.returns-in-Err
returns-in-Err g c =
    let texts = g.C.Constants.text_of c.args.consts.now in
    let tuples = g.C.Constants.items_of c.args.consts.now in
    method_refused texts tuples c.args.arena.now c.args.args.now c.args.keys.now builtins.ListInsert (plain texts tuples c.args.object) (Exactly 2) c.in-Err.fault c.requires.all_told c.in-Err.ensures.refused refl
