use Rattle.py_scopes.specs.Names.{names_in}
use Rattle.py_scopes.proofs.Judging.{slot_push}
use Rattle.py_scopes.proofs.judge.locals_of_each.Goals as goal

pub loop-f-preserved : goal.loop-f-preserved
loop-f-preserved c =
    slot_push c.args.bound.now (names_in c.args.declared.now) c.loop-f.f c.index-bound-f.result c.loop-f.slots.items c.push.new.self.items c.in_ok-locals.field-0 c.as_slice.result.now
    c.loop-f-test.true c.index-bound-f.is c.loop-f.invariant c.as_slice.ensures.keys c.in_ok-locals.ensures c.in_ok-push.ensures.items
