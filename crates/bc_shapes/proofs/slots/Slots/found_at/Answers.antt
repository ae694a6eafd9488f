use Rattle.bc_shapes.specs.declared.kinds.Kind.TheVariants.{Either}
use Rattle.bc_shapes.proofs.Loops.{slot_under}
use Rattle.bc_shapes.proofs.slots.Slots.found_at.Goals as goal

pub returns : goal.returns
returns c = slot_under c.args.self.gives.values c.args.i c.len.result c.args.self.gives.others.now c.args.self.taken c.args.self.found.now Either _ c.len.ensures c.requires.found c.requires.within
