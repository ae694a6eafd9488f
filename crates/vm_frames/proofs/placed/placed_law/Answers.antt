use Rattle.vm_frames.proofs.Stays as stays
use Rattle.vm_frames.proofs.placed.placed_law.Goals as goal

pub returns : goal.returns
returns c = record { goes = stays.goes; sets_up = stays.sets_up; drops = stays.drops; raises = stays.raises; returns = stays.returns; jumps = stays.jumps; begins = stays.begins }
