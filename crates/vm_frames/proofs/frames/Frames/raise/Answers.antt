use Rattle.std.proofs.Common.{sym, ap, ◌∙◌}
use Rattle.vm_frames.specs.Calls.{Call}
use Rattle.vm_frames.specs.Held.{with_call}
use Rattle.vm_frames.specs.Moves.{Moved, raised}
use Rattle.vm_frames.proofs.Stack.{changed}
use Rattle.vm_frames.proofs.frames.Frames.raise.Goals as goal

pub returns-clause-moved : goal.returns-clause-moved
returns-clause-moved c =
    let x = c.self.inside.top in
    changed c.self.inside c.args.self.now c.raise.new.frame (λ d. (raised c.args.e d).call) c.self.view_is c.requires
    (c.raise.ensures.room ∙ ap (λ (z : Call). with_call x z) (sym (ap (λ (z : Moved). z.call) c.raise.ensures.moved)))
