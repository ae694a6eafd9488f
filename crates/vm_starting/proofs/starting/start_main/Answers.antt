use Rattle.std.proofs.Common.{◌≡◌, List, [], ◌∷◌, Ok, Err, sym, ap, ◌∙◌}
use Rattle.std.specs.Prelude.{is_some}
use Rattle.vm_states.specs.vm_frames.Calls.{Call, Calls}
use Rattle.frame_calls.specs.prim_modules.Registry.{Registry}
use Rattle.vm_states.specs.frame_moves.Shown.{running_of}
use Rattle.vm_states.specs.frame_moves.Outcomes.{world_of}
use Rattle.vm_states.specs.frame_exits.Ends.{with_modules}
use Rattle.vm_starting.specs.Starting.{main_call}
use Rattle.vm_starting.proofs.Texts.{main_text, name_text}
use Rattle.vm_starting.proofs.Begun as begun
use Rattle.vm_starting.proofs.starting.start_main.Goals.{After-push_call}
use Rattle.vm_starting.proofs.starting.start_main.Goals as goal

pub make_module-requires-clause-key : goal.make_module-requires-clause-key
make_module-requires-clause-key c = name_text c.args.library.now

pub make_module-requires-clause-name : goal.make_module-requires-clause-name
make_module-requires-clause-name c = ap is_some (main_text c.args.library.now)

pub unreachable-requires : goal.unreachable-requires
unreachable-requires c =
    begun.never c.args.library.now c.args.arena.now c.make_module.new.arena c.args.modules.now c.make_module.new.modules c.in-Err-Raises.field-0 c.in-Err-Raises._fault c.in-Err-Raises.field-0-is c.in-Err-Raises.ensures.effect

calls_are : (c : After-push_call) → c.push_call.new.self.calls ≡ main_call c.args.number c.args.locals c.in-Ok.made ∷ []
calls_are c =
    ap (λ (z : Calls). z.calls) c.push_call.ensures ∙ ap (λ (z : List Call). main_call c.args.number c.args.locals c.in-Ok.made ∷ z) c.requires.none

pub returns-in-Ok-clause-starts : goal.returns-in-Ok-clause-starts
returns-in-Ok-clause-starts c p name w shelf_is means main =
    let old = c.args.arena.now in
    let new = c.make_module.new.arena in
    let made = begun.made_in p c.args.library.now old new c.args.modules.now c.make_module.new.modules (Ok c.in-Ok.made) shelf_is means c.in-Ok.ensures.effect in
    let code_is = c.code_law.ensures p c.args.number 0 main.row means main.is_row in
    begun.begins p w old new c.args.modules.now c.make_module.new.modules c.moves_law.ensures.begins c.args.number c.args.locals name main code_is c.in-Ok.made made
    ∙ ap (λ (z : List Call). running_of p.tables 0 z (world_of p.tables (with_modules p.tables w c.make_module.new.modules) new)) (sym (calls_are c))

pub returns-in-Ok-clause-rooms : goal.returns-in-Ok-clause-rooms
returns-in-Ok-clause-rooms c =
    c.push_call.ensures ∙ ap (λ (z : List Call). record c.args.frames.now { calls = z }) (sym (ap (λ (z : Calls). z.calls) c.push_call.ensures))

pub returns-in-Ok-clause-state : goal.returns-in-Ok-clause-state
returns-in-Ok-clause-state c p name shelf_is means main rooms =
    let old = c.args.arena.now in
    let new = c.make_module.new.arena in
    let made = begun.made_in p c.args.library.now old new c.args.modules.now c.make_module.new.modules (Ok c.in-Ok.made) shelf_is means c.in-Ok.ensures.effect in
    let code_is = c.code_law.ensures p c.args.number 0 main.row means main.is_row in
    begun.is_state p new.objects c.args.number c.args.locals c.in-Ok.made name main code_is means c.push_call.new.self (calls_are c) c.placed_law.ensures.begins c.start_law.ensures
    (world_of p.tables (with_modules p.tables begun.no_world c.args.modules.now) old) (world_of p.tables (with_modules p.tables begun.no_world c.make_module.new.modules) new)
    (begun.begins p begun.no_world old new c.args.modules.now c.make_module.new.modules c.moves_law.ensures.begins c.args.number c.args.locals name main code_is c.in-Ok.made made)
    (begun.counted p.shelf c.args.number code_is.m code_is.held) c.in-Ok.ensures.made (begun.same_rooms p c.args.frames.now c.push_call.new.self (returns-in-Ok-clause-rooms c) rooms)
    (begun.told_in p c.args.library.now new.objects shelf_is means c.in-Ok.ensures.all_told)

pub returns-in-Ok-clause-begins : goal.returns-in-Ok-clause-begins
returns-in-Ok-clause-begins c = record {
  made = c.in-Ok.made;
  making = c.in-Ok.ensures.effect;
  registered = c.in-Ok.ensures.registered;
  calls_are = calls_are c;
}

pub returns-in-Ok-clause-kept : goal.returns-in-Ok-clause-kept
returns-in-Ok-clause-kept c = ap (λ (r : Registry). r.room) c.in-Ok.ensures.registered

pub returns-in-Err-Full-clause-kept : goal.returns-in-Err-Full-clause-kept
returns-in-Err-Full-clause-kept c = ap (λ (r : Registry). r.room) c.in-Err-Full.ensures.registered

pub returns-in-Err-Full-clause-starts : goal.returns-in-Err-Full-clause-starts
returns-in-Err-Full-clause-starts c p name w shelf_is means main =
    let made = begun.made_in p c.args.library.now c.args.arena.now c.make_module.new.arena c.args.modules.now c.make_module.new.modules (Err c.in-Err-Full.field-0) shelf_is means c.in-Err-Full.ensures.effect in
    begun.full p w c.args.arena.now c.make_module.new.arena c.args.modules.now c.make_module.new.modules name c.in-Err-Full.field-0 c.in-Err-Full.room c.in-Err-Full.field-0-is made
