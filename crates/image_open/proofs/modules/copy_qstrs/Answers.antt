use Rattle.std.proofs.Common.{arith}
use Rattle.image_open.proofs.ModuleCopies.{all_copied, next_copied}
use Rattle.image_open.proofs.modules.copy_qstrs.Goals as goal

pub loop-qstr-preserved : goal.loop-qstr-preserved
loop-qstr-preserved c =
    next_copied c.args.qstrs.now c.loop-qstr.copies c.push.new.self c.loop-qstr.qstr-index c.qstr-item.result c.in_ok-copy_qstr.field-0 c.loop-qstr-test.true c.qstr-item.is c.in_ok-copy_qstr.ensures c.in_ok-push.ensures.ok c.loop-qstr.invariant

pub returns : goal.returns
returns c = all_copied c.args.qstrs.now c.loop-qstr.copies c.loop-qstr.qstr-index (omega (arith, c.loop-qstr-test.false)) c.loop-qstr.invariant
