use Rattle.vm_frames.proofs.Lists as lists
use Rattle.vm_frames.proofs.Walks as walks
use Rattle.vm_frames.proofs.Begins.{begins}
use Rattle.vm_frames.proofs.placed.moves_law.Goals as goal

pub returns : goal.returns
returns c = record { goes = lists.goes; raises = walks.raises; returns = walks.returns; jumps = walks.jumps; begins = begins; keeps = lists.keeps }
