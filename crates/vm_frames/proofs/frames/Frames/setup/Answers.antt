use Rattle.std.proofs.Common.{◌∷◌, length, None}
use Rattle.vm_frames.proofs.Stack.{changed, some_call}
use Rattle.vm_frames.proofs.frames.Frames.setup.Goals as goal

pub returns : goal.returns
returns c =
    changed c.self.inside c.args.self.now c.setup.new.self (λ d. record d { entries = (record { handler = c.args.handler; is_finally = c.args.finally; height = length d.slots; kept = None }) ∷ d.entries }) c.self.view_is (some_call _ _ c.requires.slot) c.setup.ensures
