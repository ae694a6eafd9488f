use Rattle.std.proofs.Common.{arith}
use Rattle.frame_values.proofs.Calls.{put_some}
use Rattle.frame_values.proofs.slots.put_slot.Goals as goal

pub returns-else-taken-eq0 : goal.returns-else-taken-eq0
returns-else-taken-eq0 c =
    put_some c.args.slot c.args.taken c.args.frames.now c.drop_slots.new.frames c.set_slot.new.self (omega (arith, c.if-taken-eq0.false)) c.requires.there c.drop_slots.ensures c.set_slot.ensures
