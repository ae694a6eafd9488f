use Rattle.std.proofs.Common.{refl, ap, arith}
use Rattle.std.specs.Prelude.{is_some, map}
use Rattle.port_set.proofs.Counting.{counts_same}
use Rattle.vm_machine.proofs.Runs.{ended_runs}
use Rattle.vm_machine.proofs.stepping.go.Goals as goal

pub step-requires-clause-vm : goal.step-requires-clause-vm
step-requires-clause-vm g c = c.requires.vm

pub step-requires-clause-rows : goal.step-requires-clause-rows
step-requires-clause-rows g c = c.requires.rows

pub step-requires-clause-goes_on : goal.step-requires-clause-goes_on
step-requires-clause-goes_on g c = c.in-None.is

pub step-requires-clause-some : goal.step-requires-clause-some
step-requires-clause-some g c = c.requires.some

pub step-requires-clause-countable : goal.step-requires-clause-countable
step-requires-clause-countable g c = c.requires.countable

pub step-requires-clause-kept : goal.step-requires-clause-kept
step-requires-clause-kept g c = c.requires.kept

pub returns-in-Some-clause-advances : goal.returns-in-Some-clause-advances
returns-in-Some-clause-advances g c = record {
  vm = c.requires.vm;
  runs = ended_runs g.S.Sink.told c.args.library.now c.args.vm.now (record { out = c.args.out.now; ports = map g.P.Port.seen c.args.ports.now }) c.args.most (ap is_some c.in-Some.is);
  failed = tt;
  taken = (c.requires.some, omega arith, omega arith);
  paid = tt;
  counts = refl;
  faults = counts_same (map g.P.Port.seen c.args.ports.now);
}

pub returns-in-Some-clause-kept : goal.returns-in-Some-clause-kept
returns-in-Some-clause-kept g c = c.requires.kept

pub returns-in-None-clause-advances : goal.returns-in-None-clause-advances
returns-in-None-clause-advances g c = c.step.ensures.advances

pub returns-in-None-clause-kept : goal.returns-in-None-clause-kept
returns-in-None-clause-kept g c = c.step.ensures.kept
