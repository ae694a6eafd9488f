use Rattle.std.proofs.Common.{List, map, true, refl, ap, ◌∙◌}
use Rattle.mpy_io.specs.Script.{ScriptState, script_view}
use Rattle.board_tasks.proofs.Turned.{turn_went, turn_failed}
use Rattle.board_tasks.proofs.turning.TaskRun.turn.Goals as goal

pub returns-in-Ok-clause-turns : goal.returns-in-Ok-clause-turns
returns-in-Ok-clause-turns g c =
    turn_went g.S.Sink.told c.output_law.ensures.steps c.args.library.now c.args.steps c.args.self.now (record c.args.self.now { vm = c.run.new.vm })
    (record { out = c.args.out.now; ports = map script_view c.new-ports.result }) (record { out = c.run.new.out; ports = map script_view c.run.new.ports })
    (ap (λ (ports : List ScriptState). map script_view ports) (c.new-ports.ensures ∙ c.new.ensures.items)) c.in-Ok.ensures.faults c.if-is_over.ensures c.if-is_over.ensures.unfailed c.in-Ok.ensures.runs

pub returns-clause-turns : goal.returns-clause-turns
returns-clause-turns g c =
    turn_failed g.S.Sink.told c.output_law.ensures.steps c.args.library.now c.args.steps c.args.self.now (record c.args.self.now { vm = c.run.new.vm; failed = true })
    (record { out = c.args.out.now; ports = map script_view c.new-ports.result }) (record { out = c.run.new.out; ports = map script_view c.run.new.ports })
    (ap (λ (ports : List ScriptState). map script_view ports) (c.new-ports.ensures ∙ c.new.ensures.items)) c.in-Err.ensures.faults c.if-is_over.ensures
    c.prefix_law.ensures.steps c.runs_law.ensures g.S.Sink.count refl c.in-Err.ensures.failed
