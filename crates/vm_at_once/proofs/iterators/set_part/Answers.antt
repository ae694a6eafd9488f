use Rattle.state_values.specs.vm_frames.declared.slot.Slot.TheVariants as slots
use Rattle.vm_at_once.proofs.Iterating.{one_slot, still_four}
use Rattle.vm_at_once.proofs.iterators.set_part.Goals as goal

pub set_slot-requires : goal.set_slot-requires
set_slot-requires c = one_slot c.args.frames.now.calls c.args.i c.requires.within c.requires.there

pub returns-clause-there : goal.returns-clause-there
returns-clause-there c = still_four c.args.i (slots.Iter c.args.over c.args.at c.args.part) c.args.frames.now c.set_slot.new.self c.set_slot.ensures c.requires.there
