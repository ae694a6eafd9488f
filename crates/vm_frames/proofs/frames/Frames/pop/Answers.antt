use Rattle.std.proofs.Common.{◌≡◌, Some, drop, sym, ap}
use Rattle.std.specs.Prelude.{slice_get}
use Rattle.vm_frames.specs.Held.{Held, with_call}
use Rattle.vm_frames.proofs.Stack.{changed, at_running, some_call}
use Rattle.vm_frames.proofs.frames.Frames.pop.Goals as goal

pub returns-clause-top : goal.returns-clause-top
returns-clause-top c =
    at_running (λ d. slice_get d.slots 0 ≡ Some c.pop.result) c.self.inside c.args.self.now c.self.view_is (some_call _ _ c.requires) (ap (λ (z : Held). slice_get z.call.slots 0) c.pop.ensures)

pub returns-clause-rest : goal.returns-clause-rest
returns-clause-rest c =
    changed c.self.inside c.args.self.now c.pop.new.self (λ d. record d { slots = drop 1 d.slots }) c.self.view_is (some_call _ _ c.requires)
    (sym (ap (λ (z : Held). with_call z (record z.call { slots = drop 1 z.call.slots })) c.pop.ensures))
