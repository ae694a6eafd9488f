use Rattle.std.proofs.Common.{map, refl, subst}
use Rattle.command_files.specs.mpy_endings.Ending.{IsRunStatus}
use Rattle.run_commands.proofs.Running.{unloaded_unrun}
use Rattle.run_commands.specs.Stress.{sinks}
use Rattle.run_commands.proofs.Front.{no_library}
use Rattle.run_commands.proofs.stressing.stress.Goals as goal

pub returns-in-Ok-clause-ended : goal.returns-in-Ok-clause-ended
returns-in-Ok-clause-ended g c faults files = c.run_made.ensures.ended c.args.seed c.args.count faults files c.in-Ok.ensures.bytes c.in-Ok.ensures.comes

pub returns-in-Err-clause-ended : goal.returns-in-Err-clause-ended
returns-in-Err-clause-ended g c faults files =
    no_library c.args.seed c.args.count c.args.room c.args.steps
    (sinks faults (g.S.Sink.told c.args.out.now) (g.S.Sink.count c.args.out.now) (g.E.Sink.told c.args.say.now) (g.E.Sink.count c.args.say.now) files)
    (sinks faults (g.S.Sink.told c.args.out.now) (g.S.Sink.count c.args.out.now) (g.E.Sink.told c.say_refused.new.say) (g.E.Sink.count c.say_refused.new.say) files)
    (map g.P.Port.seen c.args.ports.now) c.say_refused.result c.in-Err.ending c.in-Err.ensures.refused c.in-Err.ensures.unloaded c.in-Err.ensures.reads c.say_refused.ensures.status refl refl refl c.say_refused.ensures.says

pub returns-in-Err-clause-flushed : goal.returns-in-Err-clause-flushed
returns-in-Err-clause-flushed g c = λ s. absurd (unloaded_unrun c.in-Err.ending c.in-Err.ensures.unloaded (subst IsRunStatus c.say_refused.ensures.status s))
