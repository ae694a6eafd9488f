use Rattle.std.proofs.Common.{arith}
use Rattle.snap_saving.specs.Steps.{entry_bytes, found}
use Rattle.snap_saving.proofs.Adding.{added_more, ended}
use Rattle.snap_saving.proofs.frames.put_entries.Goals as goal

pub loop-entry-preserved : goal.loop-entry-preserved
loop-entry-preserved c =
    added_more (entry_bytes (found c.args.places.now) c.args.at) c.args.entries.now c.loop-entry.entry-index _ c.loop-entry.out.items c.put_entry.new.out.items _ c.loop-entry-test.true c.in_ok-put_entry.ensures c.loop-entry.invariant

pub returns : goal.returns
returns c = ended (entry_bytes (found c.args.places.now) c.args.at) c.args.entries.now c.loop-entry.entry-index c.loop-entry.out.items _ (omega (arith, c.loop-entry-test.false)) c.loop-entry.invariant
