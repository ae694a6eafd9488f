use Rattle.std.proofs.Common.{List, length, map, refl, ap, ◌∙◌, arith}
use Rattle.mpy_base.specs.declared.builtin.Builtin.TheVariants as builtins
use Rattle.mpy_base.specs.World.{items_at}
use Rattle.mpy_base.specs.Val.{Val}
use Rattle.prim_assignments.specs.arena_heap.declared.value.Value.{Value}
use Rattle.prim_builtins.specs.py_primitives.Outcome.{Outcome}
use Rattle.prim_builtins.specs.py_primitives.Methods.{list_method}
use Rattle.prim_assignments.specs.prim_walks.Plain.{plain, plain_heap}
use Rattle.prim_builtins.proofs.Calls.{one_known}
use Rattle.prim_methods.proofs.MethodCalls.{exactly, list_called}
use Rattle.prim_methods.proofs.Visits.{extend_visits}
use Rattle.prim_methods.proofs.extends.visits_call_list_extend.Goals as goal

pub length_of-requires-clause-leads : goal.length_of-requires-clause-leads
length_of-requires-clause-leads g c =
    let texts = g.C.Constants.text_of c.args.consts.now in
    let tuples = g.C.Constants.items_of c.args.consts.now in
    (one_known texts tuples c.args.arena.now c.args.args.now c.in-Ok.from c.in-Ok.ensures.given c.requires.known).leads

pub length_of-requires-clause-told : goal.length_of-requires-clause-told
length_of-requires-clause-told g c =
    let texts = g.C.Constants.text_of c.args.consts.now in
    let tuples = g.C.Constants.items_of c.args.consts.now in
    (one_known texts tuples c.args.arena.now c.args.args.now c.in-Ok.from c.in-Ok.ensures.given c.requires.known).told

pub returns-in-Ok : goal.returns-in-Ok
returns-in-Ok g c =
    let texts = g.C.Constants.text_of c.args.consts.now in
    let tuples = g.C.Constants.items_of c.args.consts.now in
    let h = c.args.arena.now in
    let heap = plain_heap texts tuples h in
    let args = c.args.args.now in
    let l = c.list_number-l.result in
    let called = list_called texts tuples h builtins.ListExtend args c.args.keys.now c.args.object c.in-Ok.ensures.no_keywords (exactly 1 (length args) (ap (λ (vs : List Value). length vs) c.in-Ok.ensures.given)) l
    c.list_number-l.ensures c.requires.leads
    ∙ ap (λ (vs : List Value). list_method heap builtins.ListExtend l.cell (map (plain texts tuples) (items_at h l.cell)) (map (plain texts tuples) vs)) c.in-Ok.ensures.given in
    omega (arith, ap (λ (o : Outcome Val). o.visits) called, extend_visits heap l.cell (plain texts tuples c.in-Ok.from), c.length_of.ensures, c.min.ensures)

pub returns-in-Err : goal.returns-in-Err
returns-in-Err g c =
    let texts = g.C.Constants.text_of c.args.consts.now in
    let tuples = g.C.Constants.items_of c.args.consts.now in
    let raised = ap (λ (o : Outcome Val). o.visits) (c.in-Err.ensures.refused.method_raised texts tuples c.args.arena.now builtins.ListExtend (plain texts tuples c.args.object) refl) in
    omega (arith, raised)
