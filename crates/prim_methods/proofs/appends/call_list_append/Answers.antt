use Rattle.std.proofs.Common.{List, length, map, refl, sym, ap, subst}
use Rattle.mpy_base.specs.declared.builtin.Builtin.TheVariants as builtins
use Rattle.mpy_base.specs.World.{items_at}
use Rattle.prim_assignments.specs.arena_heap.declared.value.Value.{Value}
use Rattle.prim_builtins.specs.py_primitives.Calls.{Exactly}
use Rattle.prim_builtins.specs.py_primitives.Methods.{list_method}
use Rattle.prim_assignments.specs.prim_walks.Plain.{plain, plain_heap}
use Rattle.prim_assignments.specs.prim_faults.Outcomes.{IsOutcome}
use Rattle.prim_builtins.proofs.Calls.{one_known, method_refused}
use Rattle.prim_methods.proofs.MethodCalls.{exactly, is_list, list_done}
use Rattle.prim_methods.proofs.appends.call_list_append.Goals as goal

pub append-requires-clause-list : goal.append-requires-clause-list
append-requires-clause-list g c = is_list c.args.arena.now.objects c.args.object c.list_number-l.result c.list_number-l.ensures c.requires.leads

pub append-requires-clause-leads : goal.append-requires-clause-leads
append-requires-clause-leads g c =
    let texts = g.C.Constants.text_of c.args.consts.now in
    let tuples = g.C.Constants.items_of c.args.consts.now in
    (one_known texts tuples c.args.arena.now c.args.args.now c.in-Ok.v c.in-Ok.ensures.given c.requires.known).leads

pub append-requires-clause-told : goal.append-requires-clause-told
append-requires-clause-told g c =
    let texts = g.C.Constants.text_of c.args.consts.now in
    let tuples = g.C.Constants.items_of c.args.consts.now in
    (one_known texts tuples c.args.arena.now c.args.args.now c.in-Ok.v c.in-Ok.ensures.given c.requires.known).told

pub returns-in-Ok : goal.returns-in-Ok
returns-in-Ok g c =
    let texts = g.C.Constants.text_of c.args.consts.now in
    let tuples = g.C.Constants.items_of c.args.consts.now in
    let h = c.args.arena.now in
    let args = c.args.args.now in
    let l = c.list_number-l.result in
    list_done texts tuples h builtins.ListAppend args c.args.keys.now c.args.object c.in-Ok.ensures.no_keywords (exactly 1 (length args) (ap (λ (vs : List Value). length vs) c.in-Ok.ensures.given)) l
    c.list_number-l.ensures c.requires.leads c.append.new.arena c.append.result
    (subst (λ (vs : List Value). IsOutcome texts tuples h c.append.new.arena c.append.result (list_method (plain_heap texts tuples h) builtins.ListAppend l.cell (map (plain texts tuples) (items_at h l.cell)) (map (plain texts tuples) vs)))
    (sym c.in-Ok.ensures.given) c.append.ensures)

pub returns-in-Err : goal.returns-in-Err
returns-in-Err g c =
    let texts = g.C.Constants.text_of c.args.consts.now in
    let tuples = g.C.Constants.items_of c.args.consts.now in
    method_refused texts tuples c.args.arena.now c.args.args.now c.args.keys.now builtins.ListAppend (plain texts tuples c.args.object) (Exactly 1) c.in-Err.fault c.requires.all_told c.in-Err.ensures.refused refl
