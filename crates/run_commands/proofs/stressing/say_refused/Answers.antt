use Rattle.command_files.specs.mpy_endings.Line.{line_of}
use Rattle.command_files.proofs.mpy_endings_lemmas.Said.{says_from}
use Rattle.run_commands.specs.Stress.{stress_name}
use Rattle.run_commands.proofs.stressing.say_refused.Goals as goal

pub returns-clause-says : goal.returns-clause-says
returns-clause-says g c =
    says_from (g.E.Sink.told c.args.say.now) (g.E.Sink.told c.say_ending.new.say) (g.E.Sink.count c.args.say.now) (g.E.Sink.count c.say_ending.new.say) (line_of stress_name c.args.ending) c.say_ending.result c.say_ending.ensures.line
