use Rattle.std.proofs.Common.{◌∷◌}
use Rattle.vm_frames.proofs.Stack.{changed, some_call}
use Rattle.vm_frames.proofs.frames.Frames.push.Goals as goal

pub returns : goal.returns
returns c =
    changed c.self.inside c.args.self.now c.push.new.self (λ d. record d { slots = c.args.slot ∷ d.slots }) c.self.view_is (some_call _ _ c.requires) c.push.ensures
