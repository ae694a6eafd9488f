use Rattle.std.proofs.Common.{refl, arith}
use Rattle.std.specs.Prelude.{map}
use Rattle.port_set.proofs.Counting.{counts_same}
use Rattle.vm_kept.specs.state_calls.vm_fetching.Instructions as fetched
use Rattle.vm_machine.proofs.Fetched.{at_form}
use Rattle.vm_machine.proofs.Runs.{stepped_runs}
use Rattle.vm_machine.proofs.stepping.step_on.Goals as goal

pub step_act-requires-clause-fetched : goal.step_act-requires-clause-fetched
step_act-requires-clause-fetched g c = at_form c.args.library.now c.args.vm.now c.args.row.now c.args.fetched c.requires.fetched (fetched.acts c.in-Acts.action) c.in-Acts.is

pub step_act-requires-clause-rows : goal.step_act-requires-clause-rows
step_act-requires-clause-rows g c = c.requires.rows

pub step_binary-requires-clause-fetched : goal.step_binary-requires-clause-fetched
step_binary-requires-clause-fetched g c = at_form c.args.library.now c.args.vm.now c.args.row.now c.args.fetched c.requires.fetched (fetched.binary c.in-Binary.number) c.in-Binary.is

pub step_binary-requires-clause-some : goal.step_binary-requires-clause-some
step_binary-requires-clause-some g c = c.requires.some

pub step_binary-requires-clause-countable : goal.step_binary-requires-clause-countable
step_binary-requires-clause-countable g c = c.requires.countable

pub step_call-requires-clause-fetched : goal.step_call-requires-clause-fetched
step_call-requires-clause-fetched g c =
    at_form c.args.library.now c.args.vm.now c.args.row.now c.args.fetched c.requires.fetched (fetched.call c.in-Calls.op c.in-Calls.number) c.in-Calls.is

pub step_call-requires-clause-rows : goal.step_call-requires-clause-rows
step_call-requires-clause-rows g c = c.requires.rows

pub step_call-requires-clause-some : goal.step_call-requires-clause-some
step_call-requires-clause-some g c = c.requires.some

pub step_call-requires-clause-countable : goal.step_call-requires-clause-countable
step_call-requires-clause-countable g c = c.requires.countable

pub returns-in-Calls : goal.returns-in-Calls
returns-in-Calls g c = c.step_call.ensures

pub returns-in-Binary : goal.returns-in-Binary
returns-in-Binary g c = record {
  vm = c.step_binary.ensures.stepped.vm;
  runs = stepped_runs g.S.Sink.told c.args.library.now c.args.vm.now c.step_binary.new.vm (record { out = c.args.out.now; ports = map g.P.Port.seen c.args.ports.now }) c.step_binary.result c.step_binary.ensures.stepped;
  failed = tt;
  taken = (c.step_binary.ensures.some, c.step_binary.ensures.few, c.step_binary.ensures.stepped.paid);
  paid = tt;
  counts = refl;
  faults = counts_same (map g.P.Port.seen c.args.ports.now);
}

pub returns-in-Acts : goal.returns-in-Acts
returns-in-Acts g c = record {
  vm = c.step_act.ensures.stepped.vm;
  runs = stepped_runs g.S.Sink.told c.args.library.now c.args.vm.now c.step_act.new.vm (record { out = c.args.out.now; ports = map g.P.Port.seen c.args.ports.now }) 1 c.step_act.ensures.stepped;
  failed = tt;
  taken = (omega arith, omega (arith, c.requires.some), c.step_act.ensures.stepped.paid);
  paid = tt;
  counts = refl;
  faults = counts_same (map g.P.Port.seen c.args.ports.now);
}
