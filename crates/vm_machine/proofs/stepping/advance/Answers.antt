use Rattle.std.proofs.Common.{refl, ◌∙◌, arith}
use Rattle.std.specs.Prelude.{map}
use Rattle.port_set.proofs.Counting.{counts_same}
use Rattle.vm_machine.proofs.Runs.{stepped_runs, after_steps, failed_after_steps}
use Rattle.vm_machine.proofs.stepping.advance.Goals as goal

pub run_at_once-taken-requires-clause-vm : goal.run_at_once-taken-requires-clause-vm
run_at_once-taken-requires-clause-vm g c = c.requires.vm

pub run_at_once-taken-requires-clause-rows : goal.run_at_once-taken-requires-clause-rows
run_at_once-taken-requires-clause-rows g c = c.requires.rows

pub run_at_once-taken-requires-clause-kept : goal.run_at_once-taken-requires-clause-kept
run_at_once-taken-requires-clause-kept g c = c.requires.kept

pub go-requires-clause-vm : goal.go-requires-clause-vm
go-requires-clause-vm g c = c.run_at_once-taken.ensures.stepped.vm

pub go-requires-clause-rows : goal.go-requires-clause-rows
go-requires-clause-rows g c = c.requires.rows

pub go-requires-clause-some : goal.go-requires-clause-some
go-requires-clause-some g c = let few = c.run_at_once-taken.ensures.few in omega (arith, few, c.if-left-eq0.false)

pub go-requires-clause-countable : goal.go-requires-clause-countable
go-requires-clause-countable g c = let same = c.run_at_once-taken.ensures.paid in omega (arith, same, c.requires.countable)

pub go-requires-clause-kept : goal.go-requires-clause-kept
go-requires-clause-kept g c = c.run_at_once-taken.ensures.kept

pub overflow_sub-left : goal.overflow_sub-left
overflow_sub-left g c = c.run_at_once-taken.ensures.few

pub overflow_add-result : goal.overflow_add-result
overflow_add-result g c = let few = c.run_at_once-taken.ensures.few in let more = c.in-Ok.ensures.advances.taken in omega (arith, few, more.1, c.ranges.most)

pub returns-then-left-eq0-clause-advances : goal.returns-then-left-eq0-clause-advances
returns-then-left-eq0-clause-advances g c = record {
  vm = c.run_at_once-taken.ensures.stepped.vm;
  runs = stepped_runs g.S.Sink.told c.args.library.now c.args.vm.now c.run_at_once-taken.new.vm (record { out = c.args.out.now; ports = map g.P.Port.seen c.args.ports.now }) c.run_at_once-taken.result c.run_at_once-taken.ensures.stepped;
  failed = tt;
  taken = (omega (arith, c.if-left-eq0.true, c.requires.some), c.run_at_once-taken.ensures.few, c.run_at_once-taken.ensures.stepped.paid);
  paid = tt;
  counts = refl;
  faults = counts_same (map g.P.Port.seen c.args.ports.now);
}

pub returns-then-left-eq0-clause-kept : goal.returns-then-left-eq0-clause-kept
returns-then-left-eq0-clause-kept g c = c.run_at_once-taken.ensures.kept

pub returns-in-Ok-clause-advances : goal.returns-in-Ok-clause-advances
returns-in-Ok-clause-advances g c = record {
  vm = c.go.ensures.advances.vm;
  runs = after_steps g.S.Sink.told c.args.library.now c.args.vm.now c.run_at_once-taken.new.vm c.go.new.vm (record { out = c.args.out.now; ports = map g.P.Port.seen c.args.ports.now }) (record { out = c.go.new.out; ports = map g.P.Port.seen c.go.new.ports }) c.run_at_once-taken.result c.in-Ok.more c.run_at_once-taken.ensures.stepped c.go.ensures.advances.faults c.in-Ok.ensures.advances.runs;
  failed = tt;
  taken = (let same = c.run_at_once-taken.ensures.paid in
      let few = c.run_at_once-taken.ensures.few in
      let more = c.in-Ok.ensures.advances.taken in
      (omega (arith, more.0), omega (arith, few, more.1), omega (arith, same, more.2)));
  paid = tt;
  counts = c.in-Ok.ensures.advances.counts;
  faults = c.go.ensures.advances.faults;
}

pub returns-in-Ok-clause-kept : goal.returns-in-Ok-clause-kept
returns-in-Ok-clause-kept g c = c.go.ensures.kept

pub returns-in-Err-clause-advances : goal.returns-in-Err-clause-advances
returns-in-Err-clause-advances g c = record {
  vm = c.go.ensures.advances.vm;
  runs = tt;
  failed = failed_after_steps g.S.Sink.told g.S.Sink.count c.args.library.now c.args.vm.now c.run_at_once-taken.new.vm (record { out = c.args.out.now; ports = map g.P.Port.seen c.args.ports.now }) (record { out = c.go.new.out; ports = map g.P.Port.seen c.go.new.ports }) c.run_at_once-taken.result c.args.most c.run_at_once-taken.ensures.few c.run_at_once-taken.ensures.stepped c.go.ensures.advances.faults c.in-Err.ensures.advances.failed;
  taken = tt;
  paid = c.in-Err.ensures.advances.paid ∙ c.run_at_once-taken.ensures.paid;
  counts = c.in-Err.ensures.advances.counts;
  faults = c.go.ensures.advances.faults;
}

pub returns-in-Err-clause-kept : goal.returns-in-Err-clause-kept
returns-in-Err-clause-kept g c = c.go.ensures.kept
