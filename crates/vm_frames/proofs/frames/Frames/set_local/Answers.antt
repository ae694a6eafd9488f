use Rattle.std.specs.Prelude.{slice_set}
use Rattle.vm_frames.proofs.Stack.{changed, some_call}
use Rattle.vm_frames.proofs.frames.Frames.set_local.Goals as goal

pub returns : goal.returns
returns c =
    changed c.self.inside c.args.self.now c.set_local.new.self (λ d. record d { locals = slice_set d.locals c.args.i c.args.v }) c.self.view_is (some_call _ _ c.requires) c.set_local.ensures
