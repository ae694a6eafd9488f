use Rattle.std.proofs.Common.{refl, sym, subst}
use Rattle.state_calls.specs.vm_fetching.declared.operations.LeaveOp.{LeaveOp}
use Rattle.state_exits.specs.Running.{fetched_leave, RunsWith, RunsOnBehind}
use Rattle.state_steps.proofs.leaving.leave.Goals as goal

pub return_on-requires-clause-runs : goal.return_on-requires-clause-runs
return_on-requires-clause-runs g c = (c.requires.runs.0, c.args.row.now, subst (λ (o : LeaveOp). RunsWith (g.C.Constants.text_of c.args.consts.now) (g.C.Constants.items_of c.args.consts.now) c.args.names.now c.args.library.now c.args.arena.now c.args.modules.now c.args.frames.now c.args.row.now (fetched_leave o c.requires.runs.0)) c.in-ReturnValue.is c.requires.runs.1)

pub return_on-requires-clause-rows : goal.return_on-requires-clause-rows
return_on-requires-clause-rows g c = c.requires.rows

pub raise_again_on-requires : goal.raise_again_on-requires
raise_again_on-requires g c = record { runs = (c.requires.runs.0, (subst (λ (o : LeaveOp). RunsWith (g.C.Constants.text_of c.args.consts.now) (g.C.Constants.items_of c.args.consts.now) c.args.names.now c.args.library.now c.args.arena.now c.args.modules.now c.args.frames.now c.args.row.now (fetched_leave o c.requires.runs.0)) c.in-RaiseLast.is c.requires.runs.1).runs) }

pub raise_on-requires : goal.raise_on-requires
raise_on-requires g c = record { runs = (c.requires.runs.0, (subst (λ (o : LeaveOp). RunsWith (g.C.Constants.text_of c.args.consts.now) (g.C.Constants.items_of c.args.consts.now) c.args.names.now c.args.library.now c.args.arena.now c.args.modules.now c.args.frames.now c.args.row.now (fetched_leave o c.requires.runs.0)) c.in-RaiseObj.is c.requires.runs.1).runs) }

pub returns-in-ReturnValue-clause-comes : goal.returns-in-ReturnValue-clause-comes
returns-in-ReturnValue-clause-comes g c p end same =
    subst (λ (o : LeaveOp). RunsOnBehind p (g.C.Constants.text_of c.args.consts.now) (g.C.Constants.items_of c.args.consts.now) c.args.names.now c.args.row.now (fetched_leave o end) c.args.arena.now c.return_on.new.arena c.args.modules.now c.args.modules.now c.args.frames.now c.return_on.new.frames c.return_on.result) (sym c.in-ReturnValue.is) (c.return_on.ensures.comes p end c.args.row.now same)

pub returns-in-RaiseLast-clause-comes : goal.returns-in-RaiseLast-clause-comes
returns-in-RaiseLast-clause-comes g c p end same =
    subst (λ (o : LeaveOp). RunsOnBehind p (g.C.Constants.text_of c.args.consts.now) (g.C.Constants.items_of c.args.consts.now) c.args.names.now c.args.row.now (fetched_leave o end) c.args.arena.now c.raise_again_on.new.arena c.args.modules.now c.raise_again_on.new.modules c.args.frames.now c.raise_again_on.new.frames c.raise_again_on.result) (sym c.in-RaiseLast.is) (c.raise_again_on.ensures.comes p end)

pub returns-in-RaiseObj-clause-comes : goal.returns-in-RaiseObj-clause-comes
returns-in-RaiseObj-clause-comes g c p end same =
    subst (λ (o : LeaveOp). RunsOnBehind p (g.C.Constants.text_of c.args.consts.now) (g.C.Constants.items_of c.args.consts.now) c.args.names.now c.args.row.now (fetched_leave o end) c.args.arena.now c.raise_on.new.arena c.args.modules.now c.raise_on.new.modules c.args.frames.now c.raise_on.new.frames c.raise_on.result) (sym c.in-RaiseObj.is) (c.raise_on.ensures.comes p end)

pub returns-in-ReturnValue-clause-rooms : goal.returns-in-ReturnValue-clause-rooms
returns-in-ReturnValue-clause-rooms g c = c.return_on.ensures.rooms

pub returns-in-ReturnValue-clause-registry : goal.returns-in-ReturnValue-clause-registry
returns-in-ReturnValue-clause-registry g c = refl

pub returns-in-RaiseLast-clause-rooms : goal.returns-in-RaiseLast-clause-rooms
returns-in-RaiseLast-clause-rooms g c = c.raise_again_on.ensures.rooms

pub returns-in-RaiseLast-clause-registry : goal.returns-in-RaiseLast-clause-registry
returns-in-RaiseLast-clause-registry g c = c.raise_again_on.ensures.registry

pub returns-in-RaiseObj-clause-rooms : goal.returns-in-RaiseObj-clause-rooms
returns-in-RaiseObj-clause-rooms g c = c.raise_on.ensures.rooms

pub returns-in-RaiseObj-clause-registry : goal.returns-in-RaiseObj-clause-registry
returns-in-RaiseObj-clause-registry g c = c.raise_on.ensures.registry
