use Rattle.std.proofs.Common.{map}
use Rattle.port_set.proofs.Counting.{counts_same}
use Rattle.library_runs.specs.Runs.{sight}
use Rattle.library_runs.proofs.Ended.{main_left, main_ran}
use Rattle.library_runs.proofs.running.run_for.Goals as goal

-- the run of the machine that was opened
pub returns-clause-runs : goal.returns-clause-runs
returns-clause-runs g c = λ n at.
    let old = sight g.S.Sink.told g.P.Port.seen c.args.out.now c.args.ports.now in
    let new = sight g.S.Sink.told g.P.Port.seen c.run_on.new.out c.run_on.new.ports in
    let ran = c.run_on.ensures.runs in
    (ran.0, main_ran c.args.library.now c.args.main n at c.args.room c.args.steps c.in-Ok-open.vm c.in-Ok-open.ensures.starts old new c.run_on.result.0 ran.0 ran.1, ran.2)

pub returns-clause-leaves : goal.returns-clause-leaves
returns-clause-leaves g c = λ n at.
    let old = sight g.S.Sink.told g.P.Port.seen c.args.out.now c.args.ports.now in
    let new = sight g.S.Sink.told g.P.Port.seen c.run_on.new.out c.run_on.new.ports in
    main_left c.args.library.now c.args.main n at c.args.room c.args.steps c.in-Ok-open.vm c.in-Ok-open.ensures.starts old new c.run_on.result.0 c.run_on.result.1 c.run_on.ensures.leaves

pub returns-clause-faults : goal.returns-clause-faults
returns-clause-faults g c = c.run_on.ensures.faults

-- nothing began
pub returns-in-Err-clause-faults : goal.returns-in-Err-clause-faults
returns-in-Err-clause-faults g c = counts_same (map g.P.Port.seen c.args.ports.now)

pub returns-in-Err-open-clause-faults : goal.returns-in-Err-open-clause-faults
returns-in-Err-open-clause-faults g c = counts_same (map g.P.Port.seen c.args.ports.now)
