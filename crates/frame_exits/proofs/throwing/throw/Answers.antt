use Rattle.std.proofs.Common.{◌<◌, length, List, refl, sym, ap, ◌∙◌, arith}
use Rattle.frame_moves.specs.vm_frames.Calls.{Call, Calls}
use Rattle.frame_moves.specs.vm_frames.Placed.{IsPlaced}
use Rattle.frame_moves.specs.Shown.{view_of}
use Rattle.frame_exits.specs.Ends.{with_modules}
use Rattle.frame_exits.specs.Thrown.{throwing_of, thrown, thrown_out}
use Rattle.frame_exits.proofs.Throws.{of_running, is_none, at_first, forgets_on, one_on, fewer_calls}
use Rattle.frame_exits.proofs.throwing.throw.Goals as goal

pub calls-init : goal.calls-init
calls-init g c =
    at_first (g.C.Constants.text_of c.args.consts.now) (g.C.Constants.items_of c.args.consts.now) c.args.names.now c.args.x c.args.frames.now c.args.modules.now c.requires

pub catch-requires : goal.catch-requires
catch-requires g c =
    of_running (λ d. d.module_number < length c.args.names.now) c.calls.frames.calls (omega (arith, c.calls-test.true, c.depth.ensures)) c.calls.invariant.named

pub calls-preserved : goal.calls-preserved
calls-preserved g c =
    one_on (g.C.Constants.text_of c.args.consts.now) (g.C.Constants.items_of c.args.consts.now) c.args.names.now c.args.x c.args.frames.now c.args.modules.now
    c.calls.frames c.catch.new.frames c.calls.modules c.catch.new.modules c.calls.invariant (omega (arith, c.calls-test.true, c.depth.ensures))
    c.if-catch.ensures.state c.if-catch.ensures.calls c.if-catch.ensures.thrown c.if-catch.ensures.forgets

pub calls-smaller : goal.calls-smaller
calls-smaller g c =
    fewer_calls (g.C.Constants.text_of c.args.consts.now) (g.C.Constants.items_of c.args.consts.now) c.args.names.now c.args.x c.args.frames.now c.args.modules.now
    c.calls.frames c.catch.new.frames c.calls.modules c.catch.new.modules c.calls.invariant (omega (arith, c.calls-test.true, c.depth.ensures))
    c.if-catch.ensures.state c.if-catch.ensures.calls c.if-catch.ensures.thrown c.if-catch.ensures.forgets

pub returns-then-catch-clause-state : goal.returns-then-catch-clause-state
returns-then-catch-clause-state g c tables w are placed =
    c.calls.invariant.state tables w are placed
    ∙ c.if-catch.ensures.state tables w are (of_running (IsPlaced (view_of tables)) c.calls.frames.calls (omega (arith, c.calls-test.true, c.depth.ensures)) (c.calls.invariant.placed (view_of tables) placed))

pub returns-then-catch-clause-calls : goal.returns-then-catch-clause-calls
returns-then-catch-clause-calls g c =
    let x = c.args.x in
    let old = c.args.frames.now in
    let mid = c.calls.frames.calls in
    c.if-catch.ensures.calls
    ∙ ap (λ (z : Calls). record z { calls = thrown x mid }) c.calls.invariant.rooms
    ∙ ap (λ (z : List Call). record old { calls = z }) (sym c.calls.invariant.thrown_is)

pub returns-then-catch-clause-end : goal.returns-then-catch-clause-end
returns-then-catch-clause-end g c = sym (c.if-catch.ensures.caught refl)

pub returns-then-catch-clause-forgets : goal.returns-then-catch-clause-forgets
returns-then-catch-clause-forgets g c = forgets_on c.args.modules.now c.calls.modules c.catch.new.modules c.calls.invariant.forgets c.if-catch.ensures.forgets

pub returns-clause-state : goal.returns-clause-state
returns-clause-state g c tables w are placed =
    let none = is_none c.calls.frames.calls (omega (arith, c.calls-test.false, c.depth.ensures)) in
    c.calls.invariant.state tables w are placed ∙ ap (λ (z : List Call). throwing_of tables c.args.x z (with_modules tables w c.calls.modules)) none

pub returns-clause-calls : goal.returns-clause-calls
returns-clause-calls g c =
    let x = c.args.x in
    let old = c.args.frames.now in
    let none = is_none c.calls.frames.calls (omega (arith, c.calls-test.false, c.depth.ensures)) in
    c.calls.invariant.rooms ∙ ap (λ (z : List Call). record old { calls = z }) (none ∙ sym (c.calls.invariant.thrown_is ∙ ap (λ (z : List Call). thrown x z) none))

pub returns-clause-end : goal.returns-clause-end
returns-clause-end g c =
    let none = is_none c.calls.frames.calls (omega (arith, c.calls-test.false, c.depth.ensures)) in
    sym (ap (λ (z : List Call). thrown_out c.args.x z) none)
