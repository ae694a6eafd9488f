use Rattle.std.proofs.Common.{sym, ap, ◌∙◌, subst, All}
use Rattle.frame_moves.specs.vm_frames.Calls.{Calls}
use Rattle.frame_moves.specs.vm_frames.Placed.{IsPlaced}
use Rattle.frame_exits.specs.Ends.{with_modules}
use Rattle.frame_exits.specs.Thrown.{thrown_out, failed_end, failed_calls}
use Rattle.frame_exits.proofs.Keeping.{thrown_all}
use Rattle.frame_exits.proofs.Throws.{failing_thrown, failing_filled}
use Rattle.frame_exits.proofs.throwing.fail.Goals as goal

pub returns-in-Ok-clause-state : goal.returns-in-Ok-clause-state
returns-in-Ok-clause-state g c tables w are placed =
    failing_thrown tables c.in-Ok.x (with_modules tables w c.args.modules.now) c.args.failure c.args.frames.now.calls c.requires.running c.in-Ok.is
    ∙ c.throw.ensures.state tables w are placed

pub returns-in-Ok-clause-calls : goal.returns-in-Ok-clause-calls
returns-in-Ok-clause-calls g c =
    let old = c.args.frames.now in
    c.throw.ensures.calls ∙ ap (λ r. record old { calls = failed_calls r old.calls }) (sym c.in-Ok.is)

pub returns-in-Ok-clause-end : goal.returns-in-Ok-clause-end
returns-in-Ok-clause-end g c =
    let old = c.args.frames.now in
    c.throw.ensures.end ∙ ap (λ (z : Calls). thrown_out c.in-Ok.x z.calls) c.throw.ensures.calls ∙ ap (λ r. failed_end r old.calls) (sym c.in-Ok.is)

pub returns-in-Ok-clause-placed : goal.returns-in-Ok-clause-placed
returns-in-Ok-clause-placed g c view h =
    let old = c.args.frames.now in
    subst (All (IsPlaced view)) (sym (ap (λ (z : Calls). z.calls) c.throw.ensures.calls))
    (thrown_all (IsPlaced view) c.in-Ok.x (λ d p. c.placed_law.ensures.raises view c.in-Ok.x d p) old.calls h)

pub returns-in-Err-clause-state : goal.returns-in-Err-clause-state
returns-in-Err-clause-state g c tables w are placed =
    failing_filled tables c.in-Err.room (with_modules tables w c.args.modules.now) c.args.failure c.args.frames.now.calls c.requires.running c.in-Err.is

pub returns-in-Err-clause-calls : goal.returns-in-Err-clause-calls
returns-in-Err-clause-calls g c =
    let old = c.args.frames.now in
    ap (λ r. record old { calls = failed_calls r old.calls }) (sym c.in-Err.is)

pub returns-in-Err-clause-end : goal.returns-in-Err-clause-end
returns-in-Err-clause-end g c = ap (λ r. failed_end r c.args.frames.now.calls) (sym c.in-Err.is)
