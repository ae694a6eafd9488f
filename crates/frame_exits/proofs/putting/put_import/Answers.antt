use Rattle.frame_exits.proofs.Machine.{gives_steps}
use Rattle.frame_exits.proofs.Changes.{one_left, two_less, put_over}
use Rattle.frame_exits.proofs.putting.put_import.Goals as goal

pub pop-requires : goal.pop-requires
pop-requires c = two_less c.args.frames.now.calls c.requires

pub set_slot-requires : goal.set_slot-requires
set_slot-requires c = one_left c.args.frames.now c.pop.new.self c.pop.ensures.rest c.requires

pub returns-clause-moved : goal.returns-clause-moved
returns-clause-moved c = put_over c.args.v c.args.end c.args.frames.now c.pop.new.self c.set_slot.new.self c.set_offset.new.self c.requires c.pop.ensures.rest c.set_slot.ensures c.set_offset.ensures

pub returns-clause-steps : goal.returns-clause-steps
returns-clause-steps c tables shelf w deep name from level has is next =
    gives_steps tables shelf w deep name from level c.args.v c.args.end c.args.frames.now c.set_offset.new.self
    (put_over c.args.v c.args.end c.args.frames.now c.pop.new.self c.set_slot.new.self c.set_offset.new.self c.requires c.pop.ensures.rest c.set_slot.ensures c.set_offset.ensures) has is next
