use Rattle.std.proofs.Common.{arith}
use Rattle.state_values.proofs.frame_values_lemmas.Calls.{put_some}
use Rattle.vm_at_once.proofs.operators.put_slot.Goals as goal

pub returns : goal.returns
returns c = put_some c.args.slot 2 c.args.frames.now c.pop.new.self c.set_slot.new.self (omega arith) c.requires c.pop.ensures.rest c.set_slot.ensures
