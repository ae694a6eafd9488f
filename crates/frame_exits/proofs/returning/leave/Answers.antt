use Rattle.std.proofs.Common.{◌<◌, List, All, length, map, sym, ap, ◌∙◌, subst}
use Rattle.std.proofs.lemmas.List.Elements.{All-drop}
use Rattle.frame_moves.specs.bc_machine.Library.{Name}
use Rattle.frame_moves.specs.bc_machine.State.{give}
use Rattle.frame_moves.specs.vm_frames.Calls.{Call, Calls}
use Rattle.frame_moves.specs.vm_frames.Moves.{returned}
use Rattle.frame_moves.specs.vm_frames.Views.{role_of, frame_of}
use Rattle.frame_moves.specs.vm_frames.Placed.{IsPlaced}
use Rattle.frame_moves.specs.Shown.{value_of, view_of, running_of}
use Rattle.frame_moves.specs.Outcomes.{world_of}
use Rattle.frame_exits.specs.Ends.{with_modules}
use Rattle.frame_exits.specs.Left.{HasLast}
use Rattle.frame_exits.proofs.Leaves.{at_get, role_has, can_return, left_here, left_out, leaves_here, leaves_out, left_all}
use Rattle.frame_exits.proofs.Throws.{left_over}
use Rattle.frame_exits.proofs.returning.leave.Goals as goal

pub unwind-requires : goal.unwind-requires
unwind-requires g c = can_return c.args.v (λ d. d.module_number < length c.args.names.now) c.args.frames.now.calls c.requires.named

pub give-requires-clause-last : goal.give-requires-clause-last
give-requires-clause-last g c =
    at_get (HasLast (g.C.Constants.text_of c.args.consts.now) (g.C.Constants.items_of c.args.consts.now)) c.args.names.now c.running-module_number.result.0 c.name_of-name.result c.name_of-name.ensures c.requires.last

pub give-requires-clause-role : goal.give-requires-clause-role
give-requires-clause-role g c = role_has c.args.arena.now.objects c.role-role.result c.args.frames.now.calls c.requires.role c.role-role.ensures

pub returns-in-Some-clause-state : goal.returns-in-Some-clause-state
returns-in-Some-clause-state g c tables w are placed =
    let w1 = world_of tables (with_modules tables w c.args.modules.now) c.args.arena.now in
    leaves_here c.args.v c.unwind.result c.moves_law.ensures.returns tables w1 c.args.frames.now.calls c.in-Some.field-0 c.in-Some.is c.unwind.ensures.handler placed
    ∙ ap (λ (z : Calls). running_of tables 0 z.calls w1) (sym c.unwind.ensures.moved)

pub returns-in-Some-clause-calls : goal.returns-in-Some-clause-calls
returns-in-Some-clause-calls g c =
    let old = c.args.frames.now in
    c.unwind.ensures.moved
    ∙ ap (λ (z : List Call). record old { calls = z }) (sym (left_here c.args.v c.unwind.result old.calls c.in-Some.field-0 c.in-Some.is c.unwind.ensures.handler))

pub returns-in-Some-clause-placed : goal.returns-in-Some-clause-placed
returns-in-Some-clause-placed g c view h =
    let old = c.args.frames.now in
    let same = left_here c.args.v c.unwind.result old.calls c.in-Some.field-0 c.in-Some.is c.unwind.ensures.handler in
    subst (All (IsPlaced view)) (same ∙ sym (ap (λ (z : Calls). z.calls) c.unwind.ensures.moved))
    (left_all (IsPlaced view) c.args.v (λ d p. c.placed_law.ensures.returns view c.args.v d p) old.calls h)

pub returns-in-None-clause-state : goal.returns-in-None-clause-state
returns-in-None-clause-state g c tables w are placed =
    let old = c.args.frames.now in
    let w0 = world_of tables (with_modules tables w c.args.modules.now) c.args.arena.now in
    let left_is = left_over (λ d. (returned c.args.v d).call) old c.unwind.new.self c.pop_call.new.self c.unwind.ensures.moved c.pop_call.ensures.calls in
    let view = view_of tables in
    let v = value_of tables c.args.v in
    leaves_out c.args.v c.unwind.result c.moves_law.ensures.returns tables w0 old.calls c.running-module_number.result.0 c.role-role.result c.in-None.is c.unwind.ensures.handler placed c.running-module_number.ensures.module_number c.role-role.ensures
    ∙ ap (λ (z : List Call). give v (role_of view (tables.module_name c.running-module_number.result.0) c.role-role.result) (map (frame_of view) z) w0) (sym (ap (λ (z : Calls). z.calls) left_is))
    ∙ ap (λ (n : Name). give v (role_of view n c.role-role.result) (map (frame_of view) c.pop_call.new.self.calls) w0) (are.names_are c.running-module_number.result.0 c.name_of-name.result c.name_of-name.ensures)
    ∙ c.give.ensures.state tables w are.texts_are are.tuples_are

pub returns-in-None-clause-calls : goal.returns-in-None-clause-calls
returns-in-None-clause-calls g c =
    let old = c.args.frames.now in
    left_over (λ d. (returned c.args.v d).call) old c.unwind.new.self c.pop_call.new.self c.unwind.ensures.moved c.pop_call.ensures.calls
    ∙ ap (λ (z : List Call). record old { calls = z }) (sym (left_out c.args.v c.unwind.result old.calls c.in-None.is c.unwind.ensures.handler))

pub returns-in-None-clause-placed : goal.returns-in-None-clause-placed
returns-in-None-clause-placed g c view h =
    let old = c.args.frames.now in
    let left_is = left_over (λ d. (returned c.args.v d).call) old c.unwind.new.self c.pop_call.new.self c.unwind.ensures.moved c.pop_call.ensures.calls in
    subst (All (IsPlaced view)) (sym (ap (λ (z : Calls). z.calls) left_is)) (All-drop (IsPlaced view) 1 old.calls h)
