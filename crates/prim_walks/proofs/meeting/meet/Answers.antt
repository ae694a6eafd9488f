use Rattle.std.proofs.Common.{ap, ◌∙◌}
use Rattle.py_primitives.specs.py_values.Shown.{Shown, Range, shown}
use Rattle.py_primitives.specs.py_values.Equality.{answers, equal_shown}
use Rattle.prim_walks.specs.Plain.{plain, plain_heap}
use Rattle.prim_walks.proofs.RangeTests.{unwrapped}
use Rattle.prim_walks.proofs.meeting.meet.Goals as goal

pub returns-in-Range-other-clause-met : goal.returns-in-Range-other-clause-met
returns-in-Range-other-clause-met g c equal =
    let texts = g.C.Constants.text_of c.args.consts.now in
    let tuples = g.C.Constants.items_of c.args.consts.now in
    let heap = plain_heap texts tuples c.args.arena.now in
    let v = plain texts tuples c.args.a in
    let w = plain texts tuples c.args.b in
    let x = c.in-Range in
    let y = c.in-Range-other in
    let p = x.ensures.parts in
    let q = y.ensures.parts in
    ap answers (c.is_same_range.ensures ∙ unwrapped x.start x.stop x.step y.first y.last y.way p.0 p.1 p.2 q.0 q.1 q.2)
    ∙ (ap (λ (s : Shown). equal_shown heap equal v w s (Range y.first y.last y.way)) x.ensures.shown ∙ ap (λ (s : Shown). equal_shown heap equal v w (shown heap v) s) y.ensures.shown)
