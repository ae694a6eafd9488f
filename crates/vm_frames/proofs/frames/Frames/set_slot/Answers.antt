use Rattle.std.specs.Prelude.{slice_set}
use Rattle.vm_frames.proofs.Stack.{changed, some_call}
use Rattle.vm_frames.proofs.frames.Frames.set_slot.Goals as goal

pub returns : goal.returns
returns c =
    changed c.self.inside c.args.self.now c.set_slot.new.self (λ d. record d { slots = slice_set d.slots c.args.i c.args.slot }) c.self.view_is (some_call _ _ c.requires) c.set_slot.ensures
