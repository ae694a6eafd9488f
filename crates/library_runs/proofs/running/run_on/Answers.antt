use Rattle.std.proofs.Common.{◌≡◌, List, ℕ, [], map, refl, sym, subst, inl}
use Rattle.std.proofs.KnownBytes.{Appends-nil}
use Rattle.port_set.proofs.Counting.{counts_same}
use Rattle.library_runs.specs.declared.ending.RunEnd.{RunEnd}
use Rattle.library_runs.specs.Reports.{said_by}
use Rattle.library_runs.specs.Runs.{GoesOn, StandsOn, sight}
use Rattle.vm_machine.specs.vm_starting.declared.opening.Vm.{Vm}
use Rattle.library_runs.proofs.Ended.{end_is_said, cut_in_all, leaves, over_in_all, stands_in_all, unflushed_in_all}
use Rattle.library_runs.proofs.running.run_on.Goals as goal

pub returns-in-Err-run-clause-runs : goal.returns-in-Err-run-clause-runs
returns-in-Err-run-clause-runs g c = (
  [],
  record {
    program = c.program_law.ensures.exists c.args.library.now c.requires.vm.runnable;
    is_said = refl;
    runs = cut_in_all g.S.Sink.told c.args.library.now c.args.steps c.args.vm
        (record { out = c.args.out.now; ports = map g.P.Port.seen c.args.ports.now }) (record { out = c.run.new.out; ports = map g.P.Port.seen c.run.new.ports }) g.S.Sink.count [] c.in-Err-run.ensures.failed;
  },
  inl (Appends-nil (g.E.Sink.told c.args.say.now), refl),
)

pub returns-in-Ok-flush-clause-runs : goal.returns-in-Ok-flush-clause-runs
returns-in-Ok-flush-clause-runs g c =
    let shelf = c.args.library.now in
    let vm = c.run.new.vm in
    let old = sight g.S.Sink.told g.P.Port.seen c.args.out.now c.args.ports.now in
    let new = sight g.S.Sink.told g.P.Port.seen c.flush.new.self c.run.new.ports in (
      said_by shelf vm vm.end,
      subst (λ (end : RunEnd). GoesOn shelf c.args.vm c.args.steps old new end (said_by shelf vm vm.end)) (sym c.say_end-end.ensures.end) (record {
        program = c.program_law.ensures.exists shelf c.requires.vm.runnable;
        is_said = end_is_said shelf vm vm.end;
        runs = over_in_all g.S.Sink.told shelf c.args.steps c.args.vm
            (record { out = c.args.out.now; ports = map g.P.Port.seen c.args.ports.now }) (record { out = c.run.new.out; ports = map g.P.Port.seen c.run.new.ports }) vm c.in-Ok-run.ensures.runs (g.S.Sink.told c.flush.new.self) c.flush.ensures.same;
      }),
      c.say_end-end.ensures.said,
    )

-- the machine that is left stands where the run was stopped
pub returns-in-Ok-flush-clause-leaves : goal.returns-in-Ok-flush-clause-leaves
returns-in-Ok-flush-clause-leaves g c =
    let shelf = c.args.library.now in
    let old = sight g.S.Sink.told g.P.Port.seen c.args.out.now c.args.ports.now in
    let new = sight g.S.Sink.told g.P.Port.seen c.flush.new.self c.run.new.ports in
    leaves c.run.new.vm c.say_end-end.result c.unended.result (λ (left : Vm). StandsOn shelf c.args.vm c.args.steps old new left) c.say_end-end.ensures.end c.unended.ensures
    (stands_in_all g.S.Sink.told shelf c.args.steps c.args.vm
    (record { out = c.args.out.now; ports = map g.P.Port.seen c.args.ports.now }) (record { out = c.run.new.out; ports = map g.P.Port.seen c.run.new.ports }) c.run.new.vm c.in-Ok-run.ensures.runs (g.S.Sink.told c.flush.new.self) c.flush.ensures.same c.run.ensures.vm)

pub returns-in-Err-flush-clause-runs : goal.returns-in-Err-flush-clause-runs
returns-in-Err-flush-clause-runs g c = (
  [],
  record {
    program = c.program_law.ensures.exists c.args.library.now c.requires.vm.runnable;
    is_said = refl;
    runs = unflushed_in_all g.S.Sink.told c.args.library.now c.args.steps c.args.vm
        (record { out = c.args.out.now; ports = map g.P.Port.seen c.args.ports.now }) (record { out = c.run.new.out; ports = map g.P.Port.seen c.run.new.ports }) c.run.new.vm c.in-Ok-run.ensures.runs (g.S.Sink.told c.flush.new.self) c.flush.ensures.same [];
  },
  inl (Appends-nil (g.E.Sink.told c.args.say.now), refl),
)

pub returns-in-Err-run-clause-faults : goal.returns-in-Err-run-clause-faults
returns-in-Err-run-clause-faults g c = c.run.ensures.faults

pub returns-in-Ok-flush-clause-faults : goal.returns-in-Ok-flush-clause-faults
returns-in-Ok-flush-clause-faults g c = c.run.ensures.faults

pub returns-in-Err-flush-clause-faults : goal.returns-in-Err-flush-clause-faults
returns-in-Err-flush-clause-faults g c = c.run.ensures.faults

pub returns-in-Err-clause-faults : goal.returns-in-Err-clause-faults
returns-in-Err-clause-faults g c = counts_same (map g.P.Port.seen c.args.ports.now)
