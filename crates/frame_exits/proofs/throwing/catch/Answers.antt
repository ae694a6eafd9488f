use Rattle.std.proofs.Common.{List, sym, ap, ◌∙◌}
use Rattle.frame_moves.specs.vm_frames.Calls.{Call, Calls}
use Rattle.frame_moves.specs.vm_frames.Moves.{raised}
use Rattle.frame_moves.specs.Shown.{running_of}
use Rattle.frame_exits.specs.Ends.{with_modules}
use Rattle.frame_exits.specs.Thrown.{throwing_of, thrown, thrown_out}
use Rattle.frame_exits.proofs.Throws.{left_over, thrown_here, caught, state_here, thrown_on, state_on}
use Rattle.frame_exits.proofs.throwing.catch.Goals as goal

pub returns-in-Some-clause-state : goal.returns-in-Some-clause-state
returns-in-Some-clause-state g c tables w are placed =
    let w1 = with_modules tables w c.args.modules.now in
    state_here c.args.x c.raise.result c.moves_law.ensures.raises tables w1 c.args.frames.now.calls c.in-Some.field-0 c.in-Some.is c.raise.ensures.handler placed
    ∙ ap (λ (z : Calls). running_of tables 0 z.calls w1) (sym c.raise.ensures.moved)

pub returns-in-Some-clause-calls : goal.returns-in-Some-clause-calls
returns-in-Some-clause-calls g c =
    let old = c.args.frames.now in
    c.raise.ensures.moved
    ∙ ap (λ (z : List Call). record old { calls = z }) (sym (thrown_here c.args.x c.raise.result old.calls c.in-Some.field-0 c.in-Some.is c.raise.ensures.handler))

pub returns-in-Some-clause-thrown : goal.returns-in-Some-clause-thrown
returns-in-Some-clause-thrown g c =
    thrown_here c.args.x c.raise.result c.args.frames.now.calls c.in-Some.field-0 c.in-Some.is c.raise.ensures.handler
    ∙ ap (λ (z : Calls). z.calls) (sym c.raise.ensures.moved)

pub returns-in-Some-clause-caught : goal.returns-in-Some-clause-caught
returns-in-Some-clause-caught g c is =
    ap (λ (z : Calls). thrown_out c.args.x z.calls) c.raise.ensures.moved ∙ caught c.args.x c.raise.result c.args.frames.now.calls c.raise.ensures.handler

pub returns-in-None-clause-state : goal.returns-in-None-clause-state
returns-in-None-clause-state g c tables w are placed =
    let old = c.args.frames.now in
    let w0 = with_modules tables w c.args.modules.now in
    let w1 = with_modules tables w c.abandon.new.modules in
    let left = left_over (λ d. (raised c.args.x d).call) old c.raise.new.self c.pop_call.new.self c.raise.ensures.moved c.pop_call.ensures.calls in
    state_on c.args.x c.raise.result c.moves_law.ensures.raises tables w0 w1 old.calls c.running-module_number.result.0 c.role-role.result c.in-None.is c.raise.ensures.handler placed c.running-module_number.ensures.module_number c.role-role.ensures
    (c.abandon.ensures.abandoned tables w are)
    ∙ ap (λ (z : Calls). throwing_of tables c.args.x z.calls w1) (sym left)

pub returns-in-None-clause-calls : goal.returns-in-None-clause-calls
returns-in-None-clause-calls g c =
    left_over (λ d. (raised c.args.x d).call) c.args.frames.now c.raise.new.self c.pop_call.new.self c.raise.ensures.moved c.pop_call.ensures.calls

pub returns-in-None-clause-thrown : goal.returns-in-None-clause-thrown
returns-in-None-clause-thrown g c =
    let old = c.args.frames.now in
    let left = left_over (λ d. (raised c.args.x d).call) old c.raise.new.self c.pop_call.new.self c.raise.ensures.moved c.pop_call.ensures.calls in
    thrown_on c.args.x c.raise.result old.calls c.in-None.is c.raise.ensures.handler ∙ ap (λ (z : Calls). thrown c.args.x z.calls) (sym left)
