use Rattle.std.proofs.Common.{drop}
use Rattle.vm_frames.proofs.Stack.{changed, some_call}
use Rattle.vm_frames.proofs.frames.Frames.drop_entry.Goals as goal

pub returns : goal.returns
returns c =
    changed c.self.inside c.args.self.now c.drop_entry.new.self (λ d. record d { entries = drop 1 d.entries }) c.self.view_is (some_call _ _ c.requires) c.drop_entry.ensures.dropped
