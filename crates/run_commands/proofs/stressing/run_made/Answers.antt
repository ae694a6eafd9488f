use Rattle.std.proofs.Common.{map, subst}
use Rattle.command_files.specs.mpy_endings.Ending.{IsRunStatus}
use Rattle.command_files.proofs.mpy_endings_lemmas.Statuses.{not_eight}
use Rattle.run_commands.proofs.Front.{cut_short, ran}
use Rattle.run_commands.proofs.stressing.run_made.Goals as goal

pub returns-in-Ok-clause-ended : goal.returns-in-Ok-clause-ended
returns-in-Ok-clause-ended g c seed count faults files length_is comes =
    ran seed count c.args.room c.args.steps c.args.bytes c.codes_of-number.result c.args.ready length_is comes c.codes_of-number.ensures faults files
    (g.S.Sink.told c.args.out.now) (g.S.Sink.told c.put_front.new.out) (g.S.Sink.told c.run_ready.new.out) (g.S.Sink.count c.args.out.now) (g.S.Sink.count c.put_front.new.out) (g.S.Sink.count c.run_ready.new.out)
    (g.E.Sink.told c.args.say.now) (g.E.Sink.told c.run_ready.new.say) (g.E.Sink.count c.args.say.now) (g.E.Sink.count c.run_ready.new.say)
    (map g.P.Port.seen c.args.ports.now) (map g.P.Port.seen c.run_ready.new.ports) c.run_ready.result c.in-Ok.ensures (c.run_ready.ensures.ended seed count faults files comes)

pub returns-in-Err-clause-ended : goal.returns-in-Err-clause-ended
returns-in-Err-clause-ended g c seed count faults files length_is comes =
    cut_short seed count c.args.room c.args.steps c.args.bytes c.codes_of-number.result c.args.ready length_is comes c.codes_of-number.ensures faults files
    (g.S.Sink.told c.args.out.now) (g.S.Sink.told c.put_front.new.out) (g.S.Sink.told c.put_front.new.out) (g.S.Sink.count c.args.out.now) (g.S.Sink.count c.put_front.new.out) (g.S.Sink.count c.put_front.new.out)
    (g.E.Sink.told c.args.say.now) (g.E.Sink.told c.say_unprinted.new.say) (g.E.Sink.count c.args.say.now) (g.E.Sink.count c.say_unprinted.new.say)
    (map g.P.Port.seen c.args.ports.now) c.say_unprinted.result c.say_unprinted.ensures.status c.in-Err.ensures c.say_unprinted.ensures.says

pub returns-in-Err-clause-flushed : goal.returns-in-Err-clause-flushed
returns-in-Err-clause-flushed g c = λ s. absurd (not_eight (subst IsRunStatus c.say_unprinted.ensures.status s))
