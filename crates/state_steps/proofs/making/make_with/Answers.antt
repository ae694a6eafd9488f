use Rattle.std.proofs.Common.{◌≡◌, Result, refl, subst}
use Rattle.std.specs.Prelude.{OnErr}
use Rattle.state_calls.specs.prim_faults.declared.stop.Stop.{Stop}
use Rattle.state_calls.specs.vm_fetching.Instructions as fetched
use Rattle.state_calls.specs.vm_fetching.declared.operations.MakeOp.TheVariants as make_ops
use Rattle.state_calls.specs.Runs.{ActsIn}
use Rattle.state_steps.proofs.Rooms.{rooms_through}
use Rattle.state_steps.proofs.Made.{within, numbered, made, make_stopped, make_known, make_comes}
use Rattle.state_steps.proofs.making.make_with.Goals as goal

pub make_function_with-requires-clause-runs : goal.make_function_with-requires-clause-runs
make_function_with-requires-clause-runs c = within c.args.library.now c.args.names.now c.args.row.now (record { instruction = fetched.make make_ops.MakeFunctionDefargs c.args.number; end = c.args.end }) c.args.arena.now c.args.arena.now c.args.modules.now c.args.frames.now c.args.frames.now c.requires.runs

pub make_function_with-requires-clause-rows : goal.make_function_with-requires-clause-rows
make_function_with-requires-clause-rows c = c.requires.rows

pub make_function_with-requires-clause-names : goal.make_function_with-requires-clause-names
make_function_with-requires-clause-names c = numbered c.args.library.now c.args.names.now c.args.row.now (record { instruction = fetched.make make_ops.MakeFunctionDefargs c.args.number; end = c.args.end }) c.args.arena.now c.args.arena.now c.args.modules.now c.args.frames.now c.args.frames.now c.requires.runs

pub stop_on-requires-clause-runs : goal.stop_on-requires-clause-runs
stop_on-requires-clause-runs c = ((record { instruction = fetched.make make_ops.MakeFunctionDefargs c.args.number; end = c.args.end }), make_stopped c.args.library.now c.args.names.now c.args.row.now (record { instruction = fetched.make make_ops.MakeFunctionDefargs c.args.number; end = c.args.end }) c.args.arena.now c.make_function_with.new.arena c.args.modules.now c.args.frames.now c.make_function_with.new.frames c.in-Err.stop (subst (λ (r : Result (Unit {0}) Stop). ActsIn c.args.library.now (record { instruction = fetched.make make_ops.MakeFunctionDefargs c.args.number; end = c.args.end }) 0 c.args.arena.now c.make_function_with.new.arena c.args.frames.now c.make_function_with.new.frames r) c.in-Err.is c.make_function_with.ensures.acts) (subst (λ (r : Result (Unit {0}) Stop). OnErr r (c.make_function_with.new.frames ≡ c.args.frames.now)) c.in-Err.is c.make_function_with.ensures.stays) c.requires.runs)

pub stop_on-requires-clause-stop : goal.stop_on-requires-clause-stop
stop_on-requires-clause-stop c = make_known c.args.library.now c.args.names.now c.args.row.now (record { instruction = fetched.make make_ops.MakeFunctionDefargs c.args.number; end = c.args.end }) c.args.arena.now c.make_function_with.new.arena c.args.modules.now c.args.frames.now c.make_function_with.new.frames c.in-Err.stop (subst (λ (r : Result (Unit {0}) Stop). ActsIn c.args.library.now (record { instruction = fetched.make make_ops.MakeFunctionDefargs c.args.number; end = c.args.end }) 0 c.args.arena.now c.make_function_with.new.arena c.args.frames.now c.make_function_with.new.frames r) c.in-Err.is c.make_function_with.ensures.acts) (subst (λ (r : Result (Unit {0}) Stop). OnErr r (c.make_function_with.new.frames ≡ c.args.frames.now)) c.in-Err.is c.make_function_with.ensures.stays) c.requires.runs

pub returns-in-Ok-clause-comes : goal.returns-in-Ok-clause-comes
returns-in-Ok-clause-comes c = made c.args.library.now c.args.names.now c.args.row.now (record { instruction = fetched.make make_ops.MakeFunctionDefargs c.args.number; end = c.args.end }) c.args.arena.now c.make_function_with.new.arena c.args.modules.now c.args.frames.now c.make_function_with.new.frames c.registered_law.ensures.stays (subst (λ (r : Result (Unit {0}) Stop). ActsIn c.args.library.now (record { instruction = fetched.make make_ops.MakeFunctionDefargs c.args.number; end = c.args.end }) 0 c.args.arena.now c.make_function_with.new.arena c.args.frames.now c.make_function_with.new.frames r) c.in-Ok.is c.make_function_with.ensures.acts)

pub returns-in-Err-clause-comes : goal.returns-in-Err-clause-comes
returns-in-Err-clause-comes c = make_comes c.args.library.now c.args.names.now c.args.row.now (record { instruction = fetched.make make_ops.MakeFunctionDefargs c.args.number; end = c.args.end }) c.args.arena.now c.make_function_with.new.arena c.args.modules.now c.args.frames.now c.make_function_with.new.frames c.in-Err.stop (subst (λ (r : Result (Unit {0}) Stop). ActsIn c.args.library.now (record { instruction = fetched.make make_ops.MakeFunctionDefargs c.args.number; end = c.args.end }) 0 c.args.arena.now c.make_function_with.new.arena c.args.frames.now c.make_function_with.new.frames r) c.in-Err.is c.make_function_with.ensures.acts) (subst (λ (r : Result (Unit {0}) Stop). OnErr r (c.make_function_with.new.frames ≡ c.args.frames.now)) c.in-Err.is c.make_function_with.ensures.stays) c.stop_on.new.arena c.stop_on.new.modules c.stop_on.new.frames c.stop_on.result c.stop_on.ensures.comes

pub returns-in-Ok-clause-rooms : goal.returns-in-Ok-clause-rooms
returns-in-Ok-clause-rooms c = c.make_function_with.ensures.keeps.rooms

pub returns-in-Ok-clause-registry : goal.returns-in-Ok-clause-registry
returns-in-Ok-clause-registry c = refl

pub returns-in-Err-clause-rooms : goal.returns-in-Err-clause-rooms
returns-in-Err-clause-rooms c = rooms_through c.args.frames.now c.make_function_with.new.frames c.stop_on.new.frames c.make_function_with.ensures.keeps.rooms c.stop_on.ensures.rooms

pub returns-in-Err-clause-registry : goal.returns-in-Err-clause-registry
returns-in-Err-clause-registry c = c.stop_on.ensures.registry
