use Rattle.vm_frames.proofs.Stack.{changed}
use Rattle.vm_frames.proofs.frames.Frames.set_offset.Goals as goal

pub returns : goal.returns
returns c =
    changed c.self.inside c.args.self.now c.go.new.self (λ d. record d { at = c.args.offset }) c.self.view_is c.requires c.go.ensures
