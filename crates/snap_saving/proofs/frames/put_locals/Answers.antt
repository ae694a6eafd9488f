use Rattle.std.proofs.Common.{◌+◌, arith}
use Rattle.snap_saving.specs.Steps.{found, local_bytes}
use Rattle.snap_saving.proofs.Adding.{added_more, ended, too_long}
use Rattle.snap_saving.proofs.frames.put_locals.Goals as goal

pub returns-then-is_long-clause-fault : goal.returns-then-is_long-clause-fault
returns-then-is_long-clause-fault c =
    let f = local_bytes c.args.library.now (found c.args.places.now) in
    let xs = c.args.locals.now in
    let next = added_more f xs c.loop-local.local-index _ c.loop-local.out.items c.put_local.new.out.items _ c.loop-local-test.true c.in_ok-put_local.ensures c.loop-local.invariant in
    too_long f xs (c.loop-local.local-index + 1) c.put_local.new.out.items _ next c.if-is_long.ensures.yes

pub loop-local-preserved : goal.loop-local-preserved
loop-local-preserved c =
    added_more (local_bytes c.args.library.now (found c.args.places.now)) c.args.locals.now c.loop-local.local-index _ c.loop-local.out.items c.put_local.new.out.items _ c.loop-local-test.true c.in_ok-put_local.ensures c.loop-local.invariant

pub returns-clause-ok : goal.returns-clause-ok
returns-clause-ok c =
    ended (local_bytes c.args.library.now (found c.args.places.now)) c.args.locals.now c.loop-local.local-index c.loop-local.out.items _ (omega (arith, c.loop-local-test.false)) c.loop-local.invariant
