use Rattle.std.proofs.Common.{◌∷◌}
use Rattle.vm_frames.proofs.Stack.{changed, some_call}
use Rattle.vm_frames.proofs.frames.Frames.add_entry.Goals as goal

pub returns : goal.returns
returns c =
    changed c.self.inside c.args.self.now c.add_entry.new.self (λ d. record d { entries = c.args.entry ∷ d.entries }) c.self.view_is (some_call _ _ c.requires.room) c.add_entry.ensures
