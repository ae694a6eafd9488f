use Rattle.std.proofs.Common.{◌≡◌, ◌+◌, [], refl, arith}
use Rattle.std.specs.Prelude.{map}
use Rattle.port_set.proofs.Counting.{counts_same}
use Rattle.state_steps.specs.vm_frames.py_effects.Ends.{new_world}
use Rattle.vm_kept.specs.state_calls.frame_exits.Ends.{with_modules}
use Rattle.vm_machine.proofs.Called.{at_call, call_paid, call_made, vm_called, call_failed, vm_failed}
use Rattle.vm_machine.proofs.Fetched.{fetched_holding, runs_within}
use Rattle.vm_machine.proofs.Machines.{vm_paid}
use Rattle.vm_machine.proofs.Runs.{from_other, failed_other}
use Rattle.vm_machine.proofs.stepping.step_call.Goals as goal

pub take_call-invocation-requires-clause-runs : goal.take_call-invocation-requires-clause-runs
take_call-invocation-requires-clause-runs g c =
    let m = c.requires.fetched.is_vm.memory in
    let slots = m.slot_room in
    let operands = m.operands in
    let e : c.args.vm.now.operands.room ≡ c.args.vm.now.frames.slot_room = omega (arith, slots, operands) in
    runs_within c.args.library.now c.args.vm.now c.args.row.now (at_call c.args.op c.args.number c.args.end) c.requires.fetched c.args.vm.now.operands.room e

pub take_call-invocation-requires-clause-methods : goal.take_call-invocation-requires-clause-methods
take_call-invocation-requires-clause-methods g c =
    let h = c.requires.fetched in
    let r = h.is_vm.runs h.goes_on h.program h.is_program in
    c.methods_law.ensures h.program c.args.vm.now.arena.objects c.args.vm.now.frames r.state r.kept

pub visits_call_on-due-requires-clause-callee : goal.visits_call_on-due-requires-clause-callee
visits_call_on-due-requires-clause-callee g c = c.take_call-invocation.ensures.taken.callee

pub visits_call_on-due-requires-clause-few : goal.visits_call_on-due-requires-clause-few
visits_call_on-due-requires-clause-few g c = c.take_call-invocation.ensures.taken.few

pub visits_call_on-due-requires-clause-known : goal.visits_call_on-due-requires-clause-known
visits_call_on-due-requires-clause-known g c = c.take_call-invocation.ensures.taken.operands

pub visits_call_on-due-requires-clause-all_told : goal.visits_call_on-due-requires-clause-all_told
visits_call_on-due-requires-clause-all_told g c = c.requires.fetched.is_vm.all_told

pub steps_before-requires-clause-some : goal.steps_before-requires-clause-some
steps_before-requires-clause-some g c = c.requires.some

pub steps_before-requires-clause-due : goal.steps_before-requires-clause-due
steps_before-requires-clause-due g c =
    let h = c.requires.fetched in
    let e = c.visits_call_on-due.ensures h.program (with_modules h.program.tables (new_world 0 0 []) c.args.vm.now.modules) h.is_program.means h.is_program.shelf_is in
    omega (arith, e)

pub make_call-requires-clause-fetched : goal.make_call-requires-clause-fetched
make_call-requires-clause-fetched g c = fetched_holding c.args.library.now c.args.vm.now c.args.row.now (at_call c.args.op c.args.number c.args.end) c.requires.fetched c.take_call-invocation.new.operands c.take_call-invocation.ensures.room

pub make_call-requires-clause-rows : goal.make_call-requires-clause-rows
make_call-requires-clause-rows g c = c.requires.rows

pub make_call-requires-clause-taken : goal.make_call-requires-clause-taken
make_call-requires-clause-taken g c = c.take_call-invocation.ensures.taken

pub overflow_add-bound : goal.overflow_add-bound
overflow_add-bound g c = omega (arith, c.requires.countable)

pub overflow_add-taken : goal.overflow_add-taken
overflow_add-taken g c = omega (arith, c.in-Some.ensures.before.1, c.ranges.most)

pub returns-in-None : goal.returns-in-None
returns-in-None g c = record {
  vm = vm_paid c.args.library.now (record c.args.vm.now { operands = c.take_call-invocation.new.operands }) (c.args.vm.now.paid + c.args.most) (fetched_holding c.args.library.now c.args.vm.now c.args.row.now (at_call c.args.op c.args.number c.args.end) c.requires.fetched c.take_call-invocation.new.operands c.take_call-invocation.ensures.room).is_vm;
  runs = from_other g.S.Sink.told (record c.args.vm.now { operands = c.take_call-invocation.new.operands }) c.args.vm.now (λ p w. refl) c.args.library.now (record { out = c.args.out.now; ports = map g.P.Port.seen c.args.ports.now }) (record { out = c.args.out.now; ports = map g.P.Port.seen c.args.ports.now }) c.args.most (record c.args.vm.now { operands = c.take_call-invocation.new.operands; paid = c.args.vm.now.paid + c.args.most }) (call_paid g.S.Sink.told g.S.Sink.count c.args.library.now c.args.row.now c.args.op c.args.number c.args.end (record c.args.vm.now { operands = c.take_call-invocation.new.operands }) (fetched_holding c.args.library.now c.args.vm.now c.args.row.now (at_call c.args.op c.args.number c.args.end) c.requires.fetched c.take_call-invocation.new.operands c.take_call-invocation.ensures.room) c.take_call-invocation.result c.take_call-invocation.ensures.taken c.args.most c.visits_call_on-due.result (λ p w of. c.visits_call_on-due.ensures p (with_modules p.tables w c.args.vm.now.modules) of.means of.shelf_is) (record { out = c.args.out.now; ports = map g.P.Port.seen c.args.ports.now }) c.in-None.ensures.none);
  failed = tt;
  taken = (c.requires.some, omega arith, omega arith);
  paid = tt;
  counts = refl;
  faults = counts_same (map g.P.Port.seen c.args.ports.now);
}

pub returns-in-Ok : goal.returns-in-Ok
returns-in-Ok g c = record {
  vm = vm_called g.S.Sink.told g.S.Sink.count c.args.library.now c.args.row.now c.args.op c.args.number c.args.end (record c.args.vm.now { operands = c.take_call-invocation.new.operands }) (fetched_holding c.args.library.now c.args.vm.now c.args.row.now (at_call c.args.op c.args.number c.args.end) c.requires.fetched c.take_call-invocation.new.operands c.take_call-invocation.ensures.room) c.take_call-invocation.result c.take_call-invocation.ensures.taken c.args.most c.visits_call_on-due.result (λ p w of. c.visits_call_on-due.ensures p (with_modules p.tables w c.args.vm.now.modules) of.means of.shelf_is) c.in-Some.before c.in-Some.ensures.before.0 c.in-Some.ensures.before.1 c.make_call.new.vm (record { out = c.args.out.now; ports = map g.P.Port.seen c.args.ports.now }) (record { out = c.make_call.new.out; ports = map g.P.Port.seen c.make_call.new.ports }) c.in-Ok.ensures.called c.in-Ok.ensures.kept;
  runs = from_other g.S.Sink.told (record c.args.vm.now { operands = c.take_call-invocation.new.operands }) c.args.vm.now (λ p w. refl) c.args.library.now (record { out = c.args.out.now; ports = map g.P.Port.seen c.args.ports.now }) (record { out = c.make_call.new.out; ports = map g.P.Port.seen c.make_call.new.ports }) (c.in-Some.before + 1) (record c.make_call.new.vm { paid = 0 }) (call_made g.S.Sink.told g.S.Sink.count c.args.library.now c.args.row.now c.args.op c.args.number c.args.end (record c.args.vm.now { operands = c.take_call-invocation.new.operands }) (fetched_holding c.args.library.now c.args.vm.now c.args.row.now (at_call c.args.op c.args.number c.args.end) c.requires.fetched c.take_call-invocation.new.operands c.take_call-invocation.ensures.room) c.take_call-invocation.result c.take_call-invocation.ensures.taken c.args.most c.visits_call_on-due.result (λ p w of. c.visits_call_on-due.ensures p (with_modules p.tables w c.args.vm.now.modules) of.means of.shelf_is) c.in-Some.before c.in-Some.ensures.before.0 c.in-Some.ensures.before.1 c.make_call.new.vm (record { out = c.args.out.now; ports = map g.P.Port.seen c.args.ports.now }) (record { out = c.make_call.new.out; ports = map g.P.Port.seen c.make_call.new.ports }) c.in-Ok.ensures.called);
  failed = tt;
  taken = (let lt = c.in-Some.ensures.before.1 in (omega arith, omega (arith, lt), omega arith));
  paid = tt;
  counts = c.in-Ok.ensures.counts;
  faults = c.make_call.ensures.faults;
}

pub returns-in-Err : goal.returns-in-Err
returns-in-Err g c = record {
  vm = vm_failed g.S.Sink.told g.S.Sink.count c.args.library.now c.args.row.now c.args.op c.args.number c.args.end (record c.args.vm.now { operands = c.take_call-invocation.new.operands }) (fetched_holding c.args.library.now c.args.vm.now c.args.row.now (at_call c.args.op c.args.number c.args.end) c.requires.fetched c.take_call-invocation.new.operands c.take_call-invocation.ensures.room) c.take_call-invocation.result c.take_call-invocation.ensures.taken c.args.most c.visits_call_on-due.result (λ p w of. c.visits_call_on-due.ensures p (with_modules p.tables w c.args.vm.now.modules) of.means of.shelf_is) c.in-Some.before c.in-Some.ensures.before.0 c.in-Some.ensures.before.1 c.make_call.new.vm (record { out = c.args.out.now; ports = map g.P.Port.seen c.args.ports.now }) (record { out = c.make_call.new.out; ports = map g.P.Port.seen c.make_call.new.ports }) c.in-Err.failed c.in-Err.ensures.called c.in-Err.ensures.kept;
  runs = tt;
  failed = failed_other g.S.Sink.told (record c.args.vm.now { operands = c.take_call-invocation.new.operands }) c.args.vm.now (λ p w. refl) g.S.Sink.count c.args.library.now (record { out = c.args.out.now; ports = map g.P.Port.seen c.args.ports.now }) (record { out = c.make_call.new.out; ports = map g.P.Port.seen c.make_call.new.ports }) c.args.most (call_failed g.S.Sink.told g.S.Sink.count c.args.library.now c.args.row.now c.args.op c.args.number c.args.end (record c.args.vm.now { operands = c.take_call-invocation.new.operands }) (fetched_holding c.args.library.now c.args.vm.now c.args.row.now (at_call c.args.op c.args.number c.args.end) c.requires.fetched c.take_call-invocation.new.operands c.take_call-invocation.ensures.room) c.take_call-invocation.result c.take_call-invocation.ensures.taken c.args.most c.visits_call_on-due.result (λ p w of. c.visits_call_on-due.ensures p (with_modules p.tables w c.args.vm.now.modules) of.means of.shelf_is) c.in-Some.before c.in-Some.ensures.before.0 c.in-Some.ensures.before.1 c.make_call.new.vm (record { out = c.args.out.now; ports = map g.P.Port.seen c.args.ports.now }) (record { out = c.make_call.new.out; ports = map g.P.Port.seen c.make_call.new.ports }) c.in-Err.failed c.in-Err.ensures.called);
  taken = tt;
  paid = c.in-Err.ensures.called.paid;
  counts = c.in-Err.ensures.counts;
  faults = c.make_call.ensures.faults;
}
