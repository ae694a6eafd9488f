use Rattle.std.proofs.Common.{arith}
use Rattle.image_freeze.proofs.Same.{all_copied, next_copied}
use Rattle.image_freeze.proofs.migrate.copy_entries.Goals as goal

pub loop-entry-preserved : goal.loop-entry-preserved
loop-entry-preserved c =
    next_copied c.args.entries.now c.loop-entry.copies.items c.push.new.self.items c.loop-entry.entry-index c.entry-item.result c.in_ok-copy_entry.field-0 c.loop-entry-test.true c.entry-item.is c.in_ok-copy_entry.ensures c.in_ok-push.ensures.items c.loop-entry.invariant

pub returns : goal.returns
returns c = all_copied c.args.entries.now c.loop-entry.copies.items c.loop-entry.entry-index (omega (arith, c.loop-entry-test.false)) c.loop-entry.invariant
