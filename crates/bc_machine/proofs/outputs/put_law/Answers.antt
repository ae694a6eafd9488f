use Rattle.bc_machine.proofs.OutputRuns.{put_stands}
use Rattle.bc_machine.proofs.outputs.put_law.Goals as goal

pub returns : goal.returns
returns c = λ library name cells bytes ports n most front text less puts.
    put_stands library name cells bytes ports front c.runs_law.ensures (λ a b le. c.prefix_law.ensures.runs library name cells bytes ports a b le) n most text less puts
