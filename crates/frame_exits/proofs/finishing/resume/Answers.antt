use Rattle.std.proofs.Common.{◌<◌, All, length, sym, ap, ◌∙◌, subst}
use Rattle.frame_moves.specs.vm_frames.Calls.{Call, Calls, OfRunning}
use Rattle.frame_moves.specs.vm_frames.Moves.{jumped}
use Rattle.frame_moves.specs.vm_frames.Views.{starts_of}
use Rattle.frame_moves.specs.vm_frames.Placed.{IsPlaced}
use Rattle.frame_moves.specs.bc_labels.Positions.{Starts}
use Rattle.frame_moves.specs.Shown.{view_of, running_of}
use Rattle.frame_moves.specs.Outcomes.{world_of}
use Rattle.frame_moves.specs.prim_faults.Sights.{world_over}
use Rattle.frame_exits.specs.declared.causes.Cause.{Cause}
use Rattle.frame_exits.specs.Known.{IsKnownSlot}
use Rattle.frame_exits.specs.Causes.{cause_slot, FitsEntries, GoesOn, resumed, resuming_of}
use Rattle.frame_exits.specs.Ends.{with_modules}
use Rattle.frame_exits.proofs.Finishes.{resumes_next, resumes_throw, resumes_leave, resumes_jump, running_all}
use Rattle.frame_exits.proofs.Throws.{of_running, some_run}
use Rattle.frame_exits.proofs.finishing.resume.Goals as goal

pub set_offset-requires : goal.set_offset-requires
set_offset-requires g c = some_run (FitsEntries c.args.cause) c.args.frames.now.calls c.requires.fits

pub throw_on-requires-clause-running : goal.throw_on-requires-clause-running
throw_on-requires-clause-running g c = some_run (FitsEntries c.args.cause) c.args.frames.now.calls c.requires.fits

pub leave-requires-clause-named : goal.leave-requires-clause-named
leave-requires-clause-named g c =
    of_running (λ d. d.module_number < length c.args.names.now) c.args.frames.now.calls (some_run (FitsEntries c.args.cause) c.args.frames.now.calls c.requires.fits) c.requires.named

pub unwind-requires : goal.unwind-requires
unwind-requires g c =
    subst (λ (z : Cause). OfRunning (FitsEntries z) c.args.frames.now.calls) c.in-Jump.is c.requires.fits

pub returns-in-Nothing-clause-state : goal.returns-in-Nothing-clause-state
returns-in-Nothing-clause-state g c tables w are next placed =
    let w0 = world_of tables (with_modules tables w c.args.modules.now) c.args.arena.now in
    ap (λ (z : Cause). resuming_of tables z c.args.frames.now.calls w0) c.in-Nothing.is
    ∙ resumes_next tables w0 c.args.end c.args.frames.now c.set_offset.new.self c.set_offset.ensures next

pub returns-in-Nothing-clause-calls : goal.returns-in-Nothing-clause-calls
returns-in-Nothing-clause-calls g c =
    let old = c.args.frames.now in
    c.set_offset.ensures ∙ ap (λ (z : Cause). record old { calls = resumed z c.args.end old.calls }) (sym c.in-Nothing.is)

pub returns-in-Nothing-clause-placed : goal.returns-in-Nothing-clause-placed
returns-in-Nothing-clause-placed g c view on h =
    let old = c.args.frames.now in
    let P : Call → Type 0 = λ (d : Call). IsPlaced view d in
    let Q : Call → Type 0 = λ (d : Call). Starts (starts_of view d) c.args.end in
    let q : OfRunning Q old.calls = subst (λ (z : Cause). OfRunning (GoesOn view c.args.end z) old.calls) c.in-Nothing.is on in
    subst (All P) (sym (ap (λ (z : Calls). z.calls) c.set_offset.ensures))
    (running_all P Q (λ d. record d { at = c.args.end }) (λ d s p. c.placed_law.ensures.goes view d c.args.end d.slots p s) old.calls q h)

pub returns-in-Exception-clause-state : goal.returns-in-Exception-clause-state
returns-in-Exception-clause-state g c tables w are next placed =
    let old = c.args.frames.now.calls in
    let w0 = world_of tables (with_modules tables w c.args.modules.now) c.args.arena.now in
    ap (λ (z : Cause). resuming_of tables z old w0) c.in-Exception.is
    ∙ resumes_throw tables w0 c.in-Exception.x old (some_run (FitsEntries c.args.cause) old c.requires.fits)
    ∙ c.throw_on.ensures.state tables (world_over tables.texts tables.tuples w c.args.arena.now) are placed

pub returns-in-Exception-clause-calls : goal.returns-in-Exception-clause-calls
returns-in-Exception-clause-calls g c =
    let old = c.args.frames.now in
    c.throw_on.ensures.calls ∙ ap (λ (z : Cause). record old { calls = resumed z c.args.end old.calls }) (sym c.in-Exception.is)

pub returns-in-Exception-clause-placed : goal.returns-in-Exception-clause-placed
returns-in-Exception-clause-placed g c view on h = c.throw_on.ensures.placed view h

pub returns-in-Return-clause-state : goal.returns-in-Return-clause-state
returns-in-Return-clause-state g c tables w are next placed =
    let old = c.args.frames.now.calls in
    let some = some_run (FitsEntries c.args.cause) old c.requires.fits in
    let w0 = world_of tables (with_modules tables w c.args.modules.now) c.args.arena.now in
    ap (λ (z : Cause). resuming_of tables z old w0) c.in-Return.is
    ∙ resumes_leave tables w0 c.in-Return.v old some
    ∙ c.leave.ensures.state tables w are (of_running (λ (d : Call). IsPlaced (view_of tables) d) old some placed)

pub returns-in-Return-clause-calls : goal.returns-in-Return-clause-calls
returns-in-Return-clause-calls g c =
    let old = c.args.frames.now in
    c.leave.ensures.calls ∙ ap (λ (z : Cause). record old { calls = resumed z c.args.end old.calls }) (sym c.in-Return.is)

pub returns-in-Return-clause-placed : goal.returns-in-Return-clause-placed
returns-in-Return-clause-placed g c view on h = c.leave.ensures.placed view h

pub returns-in-Jump-clause-state : goal.returns-in-Jump-clause-state
returns-in-Jump-clause-state g c tables w are next placed =
    let old = c.args.frames.now.calls in
    let some = some_run (FitsEntries c.args.cause) old c.requires.fits in
    let w0 = world_of tables (with_modules tables w c.args.modules.now) c.args.arena.now in
    ap (λ (z : Cause). resuming_of tables z old w0) c.in-Jump.is
    ∙ resumes_jump c.moves_law.ensures.jumps tables w0 c.in-Jump.target c.in-Jump.entries c.in-Jump.iterator old
    (subst (λ (z : Cause). OfRunning (FitsEntries z) old) c.in-Jump.is c.requires.fits) (of_running (λ (d : Call). IsPlaced (view_of tables) d) old some placed)
    ∙ ap (λ (z : Calls). running_of tables 0 z.calls w0) (sym c.unwind.ensures.moved)

pub returns-in-Jump-clause-calls : goal.returns-in-Jump-clause-calls
returns-in-Jump-clause-calls g c =
    let old = c.args.frames.now in
    c.unwind.ensures.moved ∙ ap (λ (z : Cause). record old { calls = resumed z c.args.end old.calls }) (sym c.in-Jump.is)

pub returns-in-Jump-clause-placed : goal.returns-in-Jump-clause-placed
returns-in-Jump-clause-placed g c view on h =
    let old = c.args.frames.now in
    let P : Call → Type 0 = λ (d : Call). IsPlaced view d in
    let Q : Call → Type 0 = λ (d : Call). Starts (starts_of view d) c.in-Jump.target in
    let q : OfRunning Q old.calls = subst (λ (z : Cause). OfRunning (GoesOn view c.args.end z) old.calls) c.in-Jump.is on in
    subst (All P) (sym (ap (λ (z : Calls). z.calls) c.unwind.ensures.moved))
    (running_all P Q (λ d. (jumped c.in-Jump.target c.in-Jump.entries c.in-Jump.iterator d.entries d.slots d).call) (λ d s p. c.placed_law.ensures.jumps view c.in-Jump.target c.in-Jump.entries c.in-Jump.iterator d p s) old.calls q h)

pub returns-in-Exception-clause-after : goal.returns-in-Exception-clause-after
returns-in-Exception-clause-after g c objects known =
    let texts = g.C.Constants.text_of c.args.consts.now in
    let tuples = g.C.Constants.items_of c.args.consts.now in
    let slot = subst (λ (z : Cause). IsKnownSlot texts tuples objects (cause_slot z)) c.in-Exception.is known in
    c.throw_on.ensures.after objects slot.leads.meets

pub returns-in-Return-clause-after : goal.returns-in-Return-clause-after
returns-in-Return-clause-after g c objects known =
    let texts = g.C.Constants.text_of c.args.consts.now in
    let tuples = g.C.Constants.items_of c.args.consts.now in
    c.leave.ensures.after objects (subst (λ (z : Cause). IsKnownSlot texts tuples objects (cause_slot z)) c.in-Return.is known)
