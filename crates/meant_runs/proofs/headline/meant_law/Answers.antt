use Rattle.meant_runs.proofs.Meant.{meant}
use Rattle.meant_runs.proofs.headline.meant_law.Goals as goal

pub returns : goal.returns
returns c program shelf room steps old new end said units runs accounted =
    meant program shelf room steps old new end said (λ p is states n. c.runs_law.ensures.means shelf p program is units room.cells room.bytes states n)
    runs.program.0 runs.program.1 (c.accounted_law.ensures.runs shelf program.main_name room steps old new end said accounted runs)
