use Rattle.frame_moves.specs.vm_frames.declared.slot.Slot.TheVariants as slots
use Rattle.frame_calls.proofs.Changes.{less_there, last_there, put_is, runs_still, set_first}
use Rattle.frame_calls.proofs.putting.put_over.Goals as goal

pub drop_slots-requires : goal.drop_slots-requires
drop_slots-requires c = less_there c.args.taken c.args.frames.now.calls c.requires.there

pub set_slot-requires : goal.set_slot-requires
set_slot-requires c = last_there c.args.taken c.args.frames.now c.drop_slots.new.frames c.requires.some c.requires.there c.drop_slots.ensures

pub set_offset-requires : goal.set_offset-requires
set_offset-requires c =
    runs_still _ (set_first (slots.Value c.args.v)) c.drop_slots.new.frames c.set_slot.new.self c.set_slot.ensures (last_there c.args.taken c.args.frames.now c.drop_slots.new.frames c.requires.some c.requires.there c.drop_slots.ensures)

pub returns : goal.returns
returns c =
    put_is c.args.taken c.args.end (slots.Value c.args.v) c.args.frames.now c.drop_slots.new.frames c.set_slot.new.self c.set_offset.new.self c.requires.some c.requires.there c.drop_slots.ensures c.set_slot.ensures c.set_offset.ensures
