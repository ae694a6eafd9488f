use Rattle.emit_draft.proofs.Making.{made_next}
use Rattle.emit_draft.proofs.codes.instructions.Goals as goal

pub loop-line-preserved : goal.loop-line-preserved
loop-line-preserved c =
    made_next c.args.labels.now c.args.lines.now c.loop-line.line-index c.loop-line.items c.push.new.self c.line-item.result c.in_ok-made.field-0 c.loop-line.invariant c.loop-line-test.true c.line-item.is
    c.in_ok-made.ensures c.in_ok-push.ensures.ok
