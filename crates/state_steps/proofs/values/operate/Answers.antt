use Rattle.std.proofs.Common.{Result, refl, subst}
use Rattle.state_calls.specs.prim_faults.declared.stop.Stop.{Stop}
use Rattle.state_calls.specs.vm_fetching.Instructions as fetched
use Rattle.state_values.specs.Keeping.{ActsKeeping}
use Rattle.state_steps.proofs.Rooms.{rooms_through}
use Rattle.state_steps.proofs.Landing.{over, lands, stopped, known, comes}
use Rattle.state_steps.proofs.values.operate.Goals as goal

pub act_on-requires-clause-places : goal.act_on-requires-clause-places
act_on-requires-clause-places g c = c.requires.places

pub act_on-requires-clause-runs : goal.act_on-requires-clause-runs
act_on-requires-clause-runs g c = over (g.C.Constants.text_of c.args.consts.now) (g.C.Constants.items_of c.args.consts.now) c.args.names.now c.args.row.now (record { instruction = fetched.stays c.args.step; end = c.args.end }) 0 c.args.arena.now c.args.arena.now c.args.frames.now c.requires.runs.1.runs

pub stop_on-requires-clause-runs : goal.stop_on-requires-clause-runs
stop_on-requires-clause-runs g c =
    ((record { instruction = fetched.stays c.args.step; end = c.args.end }), stopped (g.C.Constants.text_of c.args.consts.now) (g.C.Constants.items_of c.args.consts.now) c.args.names.now c.args.row.now (record { instruction = fetched.stays c.args.step; end = c.args.end }) 0 c.args.arena.now c.act_on.new.arena c.args.frames.now c.in-Err.stop c.act_on.new.frames (subst (λ (r : Result (Unit {0}) Stop). ActsKeeping (g.C.Constants.text_of c.args.consts.now) (g.C.Constants.items_of c.args.consts.now) (record { instruction = fetched.stays c.args.step; end = c.args.end }) 0 c.args.arena.now c.act_on.new.arena c.args.frames.now c.act_on.new.frames r) c.in-Err.is c.act_on.ensures.acts) c.requires.runs.1.runs)

pub stop_on-requires-clause-stop : goal.stop_on-requires-clause-stop
stop_on-requires-clause-stop g c =
    known (g.C.Constants.text_of c.args.consts.now) (g.C.Constants.items_of c.args.consts.now) c.args.names.now c.args.row.now (record { instruction = fetched.stays c.args.step; end = c.args.end }) 0 c.args.arena.now c.act_on.new.arena c.args.frames.now c.in-Err.stop c.act_on.new.frames (subst (λ (r : Result (Unit {0}) Stop). ActsKeeping (g.C.Constants.text_of c.args.consts.now) (g.C.Constants.items_of c.args.consts.now) (record { instruction = fetched.stays c.args.step; end = c.args.end }) 0 c.args.arena.now c.act_on.new.arena c.args.frames.now c.act_on.new.frames r) c.in-Err.is c.act_on.ensures.acts) c.requires.runs.1.runs

pub returns-in-Ok-clause-comes : goal.returns-in-Ok-clause-comes
returns-in-Ok-clause-comes g c p means tells named state registered r =
    let a = (subst (λ (r : Result (Unit {0}) Stop). ActsKeeping (g.C.Constants.text_of c.args.consts.now) (g.C.Constants.items_of c.args.consts.now) (record { instruction = fetched.stays c.args.step; end = c.args.end }) 0 c.args.arena.now c.act_on.new.arena c.args.frames.now c.act_on.new.frames r) c.in-Ok.is c.act_on.ensures.acts).acts p c.args.row.now means tells state r in
    lands p c.args.row.now (record { instruction = fetched.stays c.args.step; end = c.args.end }) 0 c.args.arena.now c.act_on.new.arena c.args.modules.now c.args.frames.now state registered r c.registered_law.ensures.stays c.act_on.new.frames a

pub returns-in-Err-clause-comes : goal.returns-in-Err-clause-comes
returns-in-Err-clause-comes g c =
    comes (g.C.Constants.text_of c.args.consts.now) (g.C.Constants.items_of c.args.consts.now) c.args.names.now c.args.row.now (record { instruction = fetched.stays c.args.step; end = c.args.end }) 0 c.args.arena.now c.act_on.new.arena c.args.frames.now c.in-Err.stop c.act_on.new.frames c.stop_on.new.arena c.args.modules.now c.stop_on.new.modules c.stop_on.new.frames c.stop_on.result (subst (λ (r : Result (Unit {0}) Stop). ActsKeeping (g.C.Constants.text_of c.args.consts.now) (g.C.Constants.items_of c.args.consts.now) (record { instruction = fetched.stays c.args.step; end = c.args.end }) 0 c.args.arena.now c.act_on.new.arena c.args.frames.now c.act_on.new.frames r) c.in-Err.is c.act_on.ensures.acts) c.stop_on.ensures.comes

pub returns-in-Ok-clause-rooms : goal.returns-in-Ok-clause-rooms
returns-in-Ok-clause-rooms g c = c.act_on.ensures.acts.rooms

pub returns-in-Ok-clause-registry : goal.returns-in-Ok-clause-registry
returns-in-Ok-clause-registry g c = refl

pub returns-in-Err-clause-rooms : goal.returns-in-Err-clause-rooms
returns-in-Err-clause-rooms g c = rooms_through c.args.frames.now c.act_on.new.frames c.stop_on.new.frames c.act_on.ensures.acts.rooms c.stop_on.ensures.rooms

pub returns-in-Err-clause-registry : goal.returns-in-Err-clause-registry
returns-in-Err-clause-registry g c = c.stop_on.ensures.registry
