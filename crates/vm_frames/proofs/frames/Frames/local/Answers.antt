use Rattle.std.proofs.Common.{◌≡◌, Some}
use Rattle.std.specs.Prelude.{slice_get}
use Rattle.vm_frames.proofs.Stack.{at_running, some_call}
use Rattle.vm_frames.proofs.frames.Frames.local.Goals as goal

pub returns : goal.returns
returns c =
    at_running (λ d. slice_get d.locals c.args.i ≡ Some c.local.result) c.self.inside c.args.self.now c.self.view_is (some_call _ _ c.requires) c.local.ensures
