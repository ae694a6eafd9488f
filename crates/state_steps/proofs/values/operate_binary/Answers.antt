use Rattle.std.proofs.Common.{Result, refl, subst}
use Rattle.state_calls.specs.prim_faults.declared.stop.Stop.{Stop}
use Rattle.state_calls.specs.vm_fetching.Instructions as fetched
use Rattle.state_values.specs.Keeping.{ActsKeeping}
use Rattle.state_values.specs.Operators.{visits_binary}
use Rattle.state_steps.proofs.Rooms.{rooms_through}
use Rattle.state_steps.proofs.Landing.{over, lands, stopped, known, comes}
use Rattle.state_steps.proofs.values.operate_binary.Goals as goal

pub binary_op-requires : goal.binary_op-requires
binary_op-requires g c = record { runs = over (g.C.Constants.text_of c.args.consts.now) (g.C.Constants.items_of c.args.consts.now) c.args.names.now c.args.row.now (record { instruction = fetched.binary c.args.number; end = c.args.end }) 0 c.args.arena.now c.args.arena.now c.args.frames.now c.requires.runs.1.runs }

pub stop_on-requires-clause-runs : goal.stop_on-requires-clause-runs
stop_on-requires-clause-runs g c =
    ((record { instruction = fetched.binary c.args.number; end = c.args.end }), stopped (g.C.Constants.text_of c.args.consts.now) (g.C.Constants.items_of c.args.consts.now) c.args.names.now c.args.row.now (record { instruction = fetched.binary c.args.number; end = c.args.end }) (visits_binary (g.C.Constants.text_of c.args.consts.now) (g.C.Constants.items_of c.args.consts.now) c.args.arena.now c.args.frames.now.calls c.args.number) c.args.arena.now c.binary_op.new.arena c.args.frames.now c.in-Err.stop c.binary_op.new.frames (subst (λ (r : Result (Unit {0}) Stop). ActsKeeping (g.C.Constants.text_of c.args.consts.now) (g.C.Constants.items_of c.args.consts.now) (record { instruction = fetched.binary c.args.number; end = c.args.end }) (visits_binary (g.C.Constants.text_of c.args.consts.now) (g.C.Constants.items_of c.args.consts.now) c.args.arena.now c.args.frames.now.calls c.args.number) c.args.arena.now c.binary_op.new.arena c.args.frames.now c.binary_op.new.frames r) c.in-Err.is c.binary_op.ensures.acts) c.requires.runs.1.runs)

pub stop_on-requires-clause-stop : goal.stop_on-requires-clause-stop
stop_on-requires-clause-stop g c =
    known (g.C.Constants.text_of c.args.consts.now) (g.C.Constants.items_of c.args.consts.now) c.args.names.now c.args.row.now (record { instruction = fetched.binary c.args.number; end = c.args.end }) (visits_binary (g.C.Constants.text_of c.args.consts.now) (g.C.Constants.items_of c.args.consts.now) c.args.arena.now c.args.frames.now.calls c.args.number) c.args.arena.now c.binary_op.new.arena c.args.frames.now c.in-Err.stop c.binary_op.new.frames (subst (λ (r : Result (Unit {0}) Stop). ActsKeeping (g.C.Constants.text_of c.args.consts.now) (g.C.Constants.items_of c.args.consts.now) (record { instruction = fetched.binary c.args.number; end = c.args.end }) (visits_binary (g.C.Constants.text_of c.args.consts.now) (g.C.Constants.items_of c.args.consts.now) c.args.arena.now c.args.frames.now.calls c.args.number) c.args.arena.now c.binary_op.new.arena c.args.frames.now c.binary_op.new.frames r) c.in-Err.is c.binary_op.ensures.acts) c.requires.runs.1.runs

pub returns-in-Ok-clause-comes : goal.returns-in-Ok-clause-comes
returns-in-Ok-clause-comes g c p means tells named state registered r =
    let a = (subst (λ (r : Result (Unit {0}) Stop). ActsKeeping (g.C.Constants.text_of c.args.consts.now) (g.C.Constants.items_of c.args.consts.now) (record { instruction = fetched.binary c.args.number; end = c.args.end }) (visits_binary (g.C.Constants.text_of c.args.consts.now) (g.C.Constants.items_of c.args.consts.now) c.args.arena.now c.args.frames.now.calls c.args.number) c.args.arena.now c.binary_op.new.arena c.args.frames.now c.binary_op.new.frames r) c.in-Ok.is c.binary_op.ensures.acts).acts p c.args.row.now means tells state r in
    lands p c.args.row.now (record { instruction = fetched.binary c.args.number; end = c.args.end }) (visits_binary (g.C.Constants.text_of c.args.consts.now) (g.C.Constants.items_of c.args.consts.now) c.args.arena.now c.args.frames.now.calls c.args.number) c.args.arena.now c.binary_op.new.arena c.args.modules.now c.args.frames.now state registered r c.registered_law.ensures.stays c.binary_op.new.frames a

pub returns-in-Err-clause-comes : goal.returns-in-Err-clause-comes
returns-in-Err-clause-comes g c =
    comes (g.C.Constants.text_of c.args.consts.now) (g.C.Constants.items_of c.args.consts.now) c.args.names.now c.args.row.now (record { instruction = fetched.binary c.args.number; end = c.args.end }) (visits_binary (g.C.Constants.text_of c.args.consts.now) (g.C.Constants.items_of c.args.consts.now) c.args.arena.now c.args.frames.now.calls c.args.number) c.args.arena.now c.binary_op.new.arena c.args.frames.now c.in-Err.stop c.binary_op.new.frames c.stop_on.new.arena c.args.modules.now c.stop_on.new.modules c.stop_on.new.frames c.stop_on.result (subst (λ (r : Result (Unit {0}) Stop). ActsKeeping (g.C.Constants.text_of c.args.consts.now) (g.C.Constants.items_of c.args.consts.now) (record { instruction = fetched.binary c.args.number; end = c.args.end }) (visits_binary (g.C.Constants.text_of c.args.consts.now) (g.C.Constants.items_of c.args.consts.now) c.args.arena.now c.args.frames.now.calls c.args.number) c.args.arena.now c.binary_op.new.arena c.args.frames.now c.binary_op.new.frames r) c.in-Err.is c.binary_op.ensures.acts) c.stop_on.ensures.comes

pub returns-in-Ok-clause-rooms : goal.returns-in-Ok-clause-rooms
returns-in-Ok-clause-rooms g c = c.binary_op.ensures.acts.rooms

pub returns-in-Ok-clause-registry : goal.returns-in-Ok-clause-registry
returns-in-Ok-clause-registry g c = refl

pub returns-in-Err-clause-rooms : goal.returns-in-Err-clause-rooms
returns-in-Err-clause-rooms g c = rooms_through c.args.frames.now c.binary_op.new.frames c.stop_on.new.frames c.binary_op.ensures.acts.rooms c.stop_on.ensures.rooms

pub returns-in-Err-clause-registry : goal.returns-in-Err-clause-registry
returns-in-Err-clause-registry g c = c.stop_on.ensures.registry
