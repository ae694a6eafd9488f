use Rattle.std.proofs.Common.{ℕ, ◌-◌, refl, subst, arith}
use Rattle.std.specs.Prelude.{map}
use Rattle.mpy_io.specs.Count.{Rose}
use Rattle.port_set.proofs.Counting.{counts_on}
use Rattle.vm_machine.proofs.Runs as runs
use Rattle.vm_machine.proofs.running.run.Goals as goal

pub steps-init : goal.steps-init
steps-init g c = (runs.begins g.S.Sink.told g.S.Sink.count c.args.library.now c.args.vm.now c.args.vm.now (record { out = c.args.out.now; ports = map g.P.Port.seen c.args.ports.now }) (record { out = c.args.out.now; ports = map g.P.Port.seen c.args.ports.now }) c.args.steps c.args.steps c.requires.vm, c.requires.kept)

pub advance-requires-clause-vm : goal.advance-requires-clause-vm
advance-requires-clause-vm g c = c.steps.invariant.0.vm

pub advance-requires-clause-rows : goal.advance-requires-clause-rows
advance-requires-clause-rows g c = c.requires.rows

pub advance-requires-clause-some : goal.advance-requires-clause-some
advance-requires-clause-some g c = c.steps-test.true

pub advance-requires-clause-countable : goal.advance-requires-clause-countable
advance-requires-clause-countable g c = let a = c.steps.invariant.0.paid in omega (arith, a, c.requires.countable)

pub overflow_sub-left : goal.overflow_sub-left
overflow_sub-left g c = let a = c.in-Ok.ensures.advances.taken in omega (arith, a.1)

pub steps-preserved : goal.steps-preserved
steps-preserved g c =
    let a = c.in-Ok.ensures.advances.taken in
    (runs.goes_on g.S.Sink.told g.S.Sink.count c.args.library.now c.args.vm.now c.steps.vm (record { out = c.args.out.now; ports = map g.P.Port.seen c.args.ports.now }) (record { out = c.steps.out; ports = map g.P.Port.seen c.steps.ports }) c.args.steps c.steps.left c.steps.invariant.0 c.in-Ok.taken (c.steps.left - c.in-Ok.taken) c.advance.new.vm (record { out = c.advance.new.out; ports = map g.P.Port.seen c.advance.new.ports }) refl a.1 c.advance.ensures.advances.vm c.in-Ok.ensures.advances.runs c.in-Ok.ensures.advances.counts c.advance.ensures.advances.faults a.2, c.advance.ensures.kept)

pub steps-smaller : goal.steps-smaller
steps-smaller g c = let a = c.in-Ok.ensures.advances.taken in omega (arith, a.0, a.1)

pub returns-in-Err-clause-vm : goal.returns-in-Err-clause-vm
returns-in-Err-clause-vm g c = c.advance.ensures.advances.vm

pub returns-in-Err-clause-failed : goal.returns-in-Err-clause-failed
returns-in-Err-clause-failed g c = runs.has_failed g.S.Sink.told g.S.Sink.count c.args.library.now c.args.vm.now c.steps.vm (record { out = c.args.out.now; ports = map g.P.Port.seen c.args.ports.now }) (record { out = c.steps.out; ports = map g.P.Port.seen c.steps.ports }) c.args.steps c.steps.left c.steps.invariant.0 (record { out = c.advance.new.out; ports = map g.P.Port.seen c.advance.new.ports }) c.advance.ensures.advances.faults c.in-Err.ensures.advances.failed

pub returns-in-Err-clause-counts : goal.returns-in-Err-clause-counts
returns-in-Err-clause-counts g c = subst (λ (n : ℕ). Rose n (g.S.Sink.count c.advance.new.out)) c.steps.invariant.0.counts c.in-Err.ensures.advances.counts

pub returns-in-Err-clause-paid : goal.returns-in-Err-clause-paid
returns-in-Err-clause-paid g c = let a = c.steps.invariant.0.paid in let b = c.in-Err.ensures.advances.paid in omega (arith, a, b)

pub returns-clause-vm : goal.returns-clause-vm
returns-clause-vm g c = c.steps.invariant.0.vm

pub returns-clause-runs : goal.returns-clause-runs
returns-clause-runs g c = runs.is_done g.S.Sink.told g.S.Sink.count c.args.library.now c.args.vm.now c.steps.vm (record { out = c.args.out.now; ports = map g.P.Port.seen c.args.ports.now }) (record { out = c.steps.out; ports = map g.P.Port.seen c.steps.ports }) c.args.steps c.steps.left c.steps.invariant.0 (omega (arith, c.steps-test.false))

pub returns-clause-counts : goal.returns-clause-counts
returns-clause-counts g c = c.steps.invariant.0.counts

pub returns-clause-paid : goal.returns-clause-paid
returns-clause-paid g c = let a = c.steps.invariant.0.paid in omega (arith, a)

pub returns-in-Err-clause-faults : goal.returns-in-Err-clause-faults
returns-in-Err-clause-faults g c = counts_on (map g.P.Port.seen c.args.ports.now) (map g.P.Port.seen c.steps.ports) (map g.P.Port.seen c.advance.new.ports) c.steps.invariant.0.faults c.advance.ensures.advances.faults

pub returns-clause-faults : goal.returns-clause-faults
returns-clause-faults g c = c.steps.invariant.0.faults

pub advance-requires-clause-kept : goal.advance-requires-clause-kept
advance-requires-clause-kept g c = c.steps.invariant.1

pub returns-in-Err-clause-kept : goal.returns-in-Err-clause-kept
returns-in-Err-clause-kept g c = c.advance.ensures.kept

pub returns-clause-kept : goal.returns-clause-kept
returns-clause-kept g c = c.steps.invariant.1
