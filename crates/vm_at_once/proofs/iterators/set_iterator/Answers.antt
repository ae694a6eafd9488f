use Rattle.vm_at_once.proofs.Iterating.{iterator_set}
use Rattle.vm_at_once.proofs.iterators.set_iterator.Goals as goal

pub returns : goal.returns
returns c =
    iterator_set c.args.over c.args.at c.args.frames.now c.set_part.new.frames c.set_part-2.new.frames c.set_part-3.new.frames c.set_part-4.new.frames c.requires
    c.set_part.ensures.set c.set_part-2.ensures.set c.set_part-3.ensures.set c.set_part-4.ensures.set
