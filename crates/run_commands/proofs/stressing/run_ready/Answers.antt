use Rattle.std.proofs.Common.{◌≡◌, ℕ, Some, Ok, map, ap, refl, subst}
use Rattle.command_files.specs.mpy_endings.Ending.{IsRunStatus}
use Rattle.run_commands.specs.Ready.{GoLibrary}
use Rattle.run_commands.proofs.Running.{says_run, ends_run}
use Rattle.run_commands.specs.Stress.{sinks, stress_files, stress_name}
use Rattle.run_commands.proofs.stressing.run_ready.Goals as goal

pub returns-clause-ended : goal.returns-clause-ended
returns-clause-ended g c seed count faults files comes =
    let old = sinks faults (g.S.Sink.told c.args.out.now) (g.S.Sink.count c.args.out.now) (g.E.Sink.told c.args.say.now) (g.E.Sink.count c.args.say.now) (Some (stress_files seed count)) in
    let new = sinks faults (g.S.Sink.told c.run_loaded-ending.new.out) (g.S.Sink.count c.run_loaded-ending.new.out) (g.E.Sink.told c.say_ending.new.say) (g.E.Sink.count c.say_ending.new.say) files in
    let before = map g.P.Port.seen c.args.ports.now in
    let after = map g.P.Port.seen c.run_loaded-ending.new.ports in
    let ending = c.run_loaded-ending.result in
    let went = c.run_loaded-ending.ensures.went in
    let says = says_run c.args.room c.args.steps old new before after (Ok c.args.ready) ending went.0 went.1 (g.E.Sink.told c.run_loaded-ending.new.say) (g.E.Sink.count c.run_loaded-ending.new.say) stress_name c.say_ending.result
    (λ e. (ap g.E.Sink.told (c.run_loaded-ending.ensures.silent e), ap g.E.Sink.count (c.run_loaded-ending.ensures.silent e)))
    (λ e. (ap g.E.Sink.told (c.say_ending.ensures.said e), ap g.E.Sink.count (c.say_ending.ensures.said e)))
    went.2 c.say_ending.ensures.line in
    ends_run c.args.room c.args.steps old new before after (Ok c.args.ready) ending went.0 went.1 (GoLibrary 0) stress_name stress_name c.status.result
    c.status.ensures refl comes refl c.run_loaded-ending.ensures.reads c.run_loaded-ending.ensures.out_counts says

pub returns-clause-flushed : goal.returns-clause-flushed
returns-clause-flushed g c = λ s. c.run_loaded-ending.ensures.flushed (subst IsRunStatus c.status.ensures s)
