use Rattle.std.proofs.Common.{sym}
use Rattle.vm_frames.proofs.Stack.{depth_is}
use Rattle.vm_frames.proofs.frames.Frames.depth.Goals as goal

pub returns : goal.returns
returns c = sym (depth_is c.self.inside c.args.self.now c.self.view_is)
