use Rattle.frame_moves.specs.vm_frames.declared.slot.Slot.TheVariants as slots
use Rattle.frame_calls.proofs.Changes.{push_is, runs_still, pushed}
use Rattle.frame_calls.proofs.putting.put_on_top.Goals as goal

pub set_offset-requires : goal.set_offset-requires
set_offset-requires c = runs_still _ (pushed (slots.Value c.args.v)) c.args.frames.now c.push.new.self c.push.ensures c.requires

pub returns : goal.returns
returns c = push_is c.args.end (slots.Value c.args.v) c.args.frames.now c.push.new.self c.set_offset.new.self c.push.ensures c.set_offset.ensures
