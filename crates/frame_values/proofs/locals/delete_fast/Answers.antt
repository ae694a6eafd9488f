use Rattle.prim_names.specs.arena_heap.declared.value.Value.{Value}
use Rattle.frame_values.specs.Slots.{with_empty}
use Rattle.frame_values.proofs.Settling.{of_effect, changed, leaves}
use Rattle.frame_values.proofs.Emptying.{empties_steps}
use Rattle.frame_values.proofs.locals.delete_fast.Goals as goal

pub returns-clause-steps : goal.returns-clause-steps
returns-clause-steps g c =
    let texts = g.C.Constants.text_of c.args.consts.now in
    let tuples = g.C.Constants.items_of c.args.consts.now in
    let before = c.args.arena.now in
    let old = c.args.frames.now in
    empties_steps texts tuples c.args.end c.args.n before old c.empty.new.frames c.empty.result c.local_at-local.result c.assigned-given.result (of_effect texts tuples before before c.assigned-given.result _ c.assigned-given.ensures) c.empty.ensures c.local_at-local.ensures.there

pub returns-clause-moved : goal.returns-clause-moved
returns-clause-moved g c =
    let texts = g.C.Constants.text_of c.args.consts.now in
    let tuples = g.C.Constants.items_of c.args.consts.now in
    let before = c.args.arena.now in
    let old = c.args.frames.now in
    changed texts tuples (with_empty c.args.n c.args.end) old c.empty.new.frames c.empty.result c.assigned-given.result c.empty.ensures

pub returns-clause-leaves : goal.returns-clause-leaves
returns-clause-leaves g c =
    let texts = g.C.Constants.text_of c.args.consts.now in
    let tuples = g.C.Constants.items_of c.args.consts.now in
    let before = c.args.arena.now in
    let old = c.args.frames.now in
    leaves texts tuples (λ (v : Value). with_empty c.args.n c.args.end) old c.empty.new.frames c.empty.result before before c.assigned-given.result 0 _ (of_effect texts tuples before before c.assigned-given.result _ c.assigned-given.ensures) c.empty.ensures
