use Rattle.std.proofs.Common.{sym, ap, ◌∙◌}
use Rattle.vm_frames.specs.Calls.{Call}
use Rattle.vm_frames.specs.Held.{with_call}
use Rattle.vm_frames.specs.Moves.{Moved, unwound}
use Rattle.vm_frames.proofs.Stack.{changed, some_call}
use Rattle.vm_frames.proofs.frames.Frames.unwind.Goals as goal

pub returns-clause-moved : goal.returns-clause-moved
returns-clause-moved c =
    let x = c.self.inside.top in
    changed c.self.inside c.args.self.now c.unwind.new.frame (λ d. (unwound c.args.kept d).call) c.self.view_is (some_call _ _ c.requires)
    (c.unwind.ensures.room ∙ ap (λ (z : Call). with_call x z) (sym (ap (λ (z : Moved). z.call) c.unwind.ensures.moved)))
