use Rattle.state_steps.proofs.Finished.{at_once}
use Rattle.state_steps.proofs.finishing.finish.Goals as goal

pub end_finally_on-requires-clause-runs : goal.end_finally_on-requires-clause-runs
end_finally_on-requires-clause-runs g c = c.requires.runs

pub end_finally_on-requires-clause-rows : goal.end_finally_on-requires-clause-rows
end_finally_on-requires-clause-rows g c = c.requires.rows

pub returns-clause-comes : goal.returns-clause-comes
returns-clause-comes g c p row same keeps means tells named state registered r =
    at_once p c.args.arena.now c.end_finally_on.new.arena c.args.modules.now c.end_finally_on.new.modules c.args.frames.now c.end_finally_on.new.frames c.end_finally_on.result
    (c.end_finally_on.ensures.comes p row same keeps means tells named state registered r)

pub returns-clause-rooms : goal.returns-clause-rooms
returns-clause-rooms g c = c.end_finally_on.ensures.rooms

pub returns-clause-registry : goal.returns-clause-registry
returns-clause-registry g c = c.end_finally_on.ensures.registry
