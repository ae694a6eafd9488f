use Rattle.std.proofs.Common.{All, Ok, Err, length, refl, sym, ap, ◌∙◌, subst}
use Rattle.std.proofs.lemmas.Option.{same_Some}
use Rattle.std.specs.Prelude.{IsSome}
use Rattle.frame_moves.specs.arena_heap.declared.value.StrNo.TheVariants as strs
use Rattle.frame_moves.specs.vm_frames.Calls.{Calls}
use Rattle.frame_moves.specs.vm_frames.Placed.{IsPlaced}
use Rattle.frame_moves.specs.Shown.{view_of}
use Rattle.frame_moves.specs.Outcomes.{outcome_of}
use Rattle.frame_exits.specs.declared.names.ModuleName.{ModuleName}
use Rattle.frame_exits.specs.Ends.{with_modules}
use Rattle.frame_exits.specs.Known.{IsKnownCall}
use Rattle.frame_exits.proofs.Leaves.{at_get}
use Rattle.frame_exits.specs.Beginning.{HasImported}
use Rattle.frame_exits.proofs.Begins.{begins_list, shallow_is, stop_known, begun_placed, begun_known, calls_later}
use Rattle.frame_exits.proofs.beginning.begin_import.Goals as goal

pub make_module-requires-clause-name : goal.make_module-requires-clause-name
make_module-requires-clause-name g c =
    at_get (λ (m : ModuleName). IsSome (g.C.Constants.text_of c.args.consts.now (strs.Pool m.name))) c.args.names.now c.args.number c.name_of-name.result c.name_of-name.ensures c.requires.told

pub returns-in-Ok-clause-steps : goal.returns-in-Ok-clause-steps
returns-in-Ok-clause-steps g c tables shelf library w name from level are has is stands outermost place paid =
    begins_list (g.C.Constants.text_of c.args.consts.now) (g.C.Constants.items_of c.args.consts.now) c.args.names.now c.moves_law.ensures.begins tables are shelf library w c.args.arena.now c.make_module.new.arena
    c.args.modules.now c.make_module.new.modules c.args.number c.args.locals c.name_of-name.result c.name_of-name.ensures (Ok c.in-Ok.made) c.in-Ok.ensures.effect outermost stands name from level
    c.args.frames.now.calls has (shallow_is (length c.args.frames.now.calls) c.requires.shallow) is place paid
    ∙ ap (λ (z : Calls). outcome_of tables place (with_modules tables w c.make_module.new.modules) c.make_module.new.arena c.args.frames.now.calls z.calls (Ok tt)) (sym c.push_call.ensures)

pub returns-in-Ok-clause-begun : goal.returns-in-Ok-clause-begun
returns-in-Ok-clause-begun g c m there =
    subst (λ (z : ModuleName). HasImported c.args.number c.args.locals z.name c.args.frames.now c.push_call.new.self c.args.modules.now c.make_module.new.modules (Ok tt))
    (same_Some c.name_of-name.result m (sym c.name_of-name.ensures ∙ there))
    (c.in-Ok.made, record { calls = c.push_call.ensures; registered = c.in-Ok.ensures.registered })

pub returns-in-Ok-clause-placed : goal.returns-in-Ok-clause-placed
returns-in-Ok-clause-placed g c tables library is placed =
    subst (λ (z : Calls). All (IsPlaced (view_of tables)) z.calls) (sym c.push_call.ensures)
    (begun_placed tables library c.args.number c.args.locals c.in-Ok.made c.args.frames.now.calls c.placed_law.ensures.begins is placed)

pub returns-in-Ok-clause-keeps : goal.returns-in-Ok-clause-keeps
returns-in-Ok-clause-keeps g c =
    let texts = g.C.Constants.text_of c.args.consts.now in
    let tuples = g.C.Constants.items_of c.args.consts.now in
    let modules = length c.args.names.now in
    let objects = c.make_module.new.arena.objects in
    record {
      known = λ known. subst (λ (z : Calls). All (IsKnownCall texts tuples modules objects) z.calls) (sym c.push_call.ensures)
          (begun_known texts tuples modules c.args.arena.now.objects objects c.in-Ok.ensures.later c.args.number c.args.locals c.in-Ok.made c.args.frames.now.calls c.requires.named c.in-Ok.ensures.made known);
      later = c.in-Ok.ensures.later;
      all_told = c.in-Ok.ensures.all_told;
    }

pub returns-in-Err-clause-steps : goal.returns-in-Err-clause-steps
returns-in-Err-clause-steps g c tables shelf library w name from level are has is stands outermost place paid =
    begins_list (g.C.Constants.text_of c.args.consts.now) (g.C.Constants.items_of c.args.consts.now) c.args.names.now c.moves_law.ensures.begins tables are shelf library w c.args.arena.now c.make_module.new.arena
    c.args.modules.now c.make_module.new.modules c.args.number c.args.locals c.name_of-name.result c.name_of-name.ensures (Err c.in-Err.stop) c.in-Err.ensures.effect outermost stands name from level
    c.args.frames.now.calls has (shallow_is (length c.args.frames.now.calls) c.requires.shallow) is place paid

pub returns-in-Err-clause-begun : goal.returns-in-Err-clause-begun
returns-in-Err-clause-begun g c m there = record { calls = refl; registered = c.in-Err.ensures.registered }

pub returns-in-Err-clause-stop : goal.returns-in-Err-clause-stop
returns-in-Err-clause-stop g c =
    stop_known (g.C.Constants.text_of c.args.consts.now) (g.C.Constants.items_of c.args.consts.now) c.args.arena.now c.make_module.new.arena c.args.modules.now c.make_module.new.modules _ c.in-Err.stop c.in-Err.ensures.effect

pub returns-in-Err-clause-keeps : goal.returns-in-Err-clause-keeps
returns-in-Err-clause-keeps g c =
    let texts = g.C.Constants.text_of c.args.consts.now in
    let tuples = g.C.Constants.items_of c.args.consts.now in
    record {
      known = λ known. calls_later texts tuples (length c.args.names.now) c.args.arena.now.objects c.make_module.new.arena.objects c.in-Err.ensures.later c.args.frames.now.calls known;
      later = c.in-Err.ensures.later;
      all_told = c.in-Err.ensures.all_told;
    }
