use Rattle.prim_names.specs.prim_types.py_primitives.Iterables.{use_iter as used}
use Rattle.prim_names.specs.prim_walks.Plain.{plain, plain_heap}
use Rattle.frame_values.specs.Slots.{with_iterator}
use Rattle.frame_values.proofs.Visits.{use_free}
use Rattle.frame_values.proofs.Settling.{of_outcome, moved, leaves}
use Rattle.frame_values.proofs.Iterating.{begins}
use Rattle.frame_values.proofs.iterators.get_iter_stack.Goals as goal

pub returns-clause-steps : goal.returns-clause-steps
returns-clause-steps g c =
    let texts = g.C.Constants.text_of c.args.consts.now in
    let tuples = g.C.Constants.items_of c.args.consts.now in
    let before = c.args.arena.now in
    let old = c.args.frames.now in
    let v = c.value_at-v.result in
    begins texts tuples c.args.end old c.begin_iterator.new.frames c.begin_iterator.result before v c.use_iter-given.result
    (of_outcome texts tuples before before c.use_iter-given.result 0 (λ heap. used heap (plain texts tuples v)) c.use_iter-given.ensures (use_free (plain_heap texts tuples before) (plain texts tuples v)))
    c.value_at-v.ensures.there c.begin_iterator.ensures

pub returns-clause-moved : goal.returns-clause-moved
returns-clause-moved g c =
    let texts = g.C.Constants.text_of c.args.consts.now in
    let tuples = g.C.Constants.items_of c.args.consts.now in
    let before = c.args.arena.now in
    let old = c.args.frames.now in
    let v = c.value_at-v.result in
    moved texts tuples (with_iterator c.args.end) old c.begin_iterator.new.frames c.begin_iterator.result before before c.use_iter-given.result 0 _
    (of_outcome texts tuples before before c.use_iter-given.result 0 (λ heap. used heap (plain texts tuples v)) c.use_iter-given.ensures (use_free (plain_heap texts tuples before) (plain texts tuples v))) c.begin_iterator.ensures

pub returns-clause-leaves : goal.returns-clause-leaves
returns-clause-leaves g c =
    let texts = g.C.Constants.text_of c.args.consts.now in
    let tuples = g.C.Constants.items_of c.args.consts.now in
    let before = c.args.arena.now in
    let old = c.args.frames.now in
    let v = c.value_at-v.result in
    leaves texts tuples (with_iterator c.args.end) old c.begin_iterator.new.frames c.begin_iterator.result before before c.use_iter-given.result 0 _
    (of_outcome texts tuples before before c.use_iter-given.result 0 (λ heap. used heap (plain texts tuples v)) c.use_iter-given.ensures (use_free (plain_heap texts tuples before) (plain texts tuples v))) c.begin_iterator.ensures
