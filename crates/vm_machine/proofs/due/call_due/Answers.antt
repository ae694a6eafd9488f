use Rattle.std.proofs.Common.{◌≡◌, [], refl, arith}
use Rattle.state_steps.specs.vm_frames.py_effects.Ends.{new_world}
use Rattle.vm_kept.specs.state_calls.frame_exits.Ends.{with_modules}
use Rattle.vm_machine.proofs.Called.{at_call}
use Rattle.vm_machine.proofs.Fetched.{fetched_holding, runs_within}
use Rattle.vm_machine.proofs.Owed as owed
use Rattle.vm_machine.proofs.due.call_due.Goals as goal

pub take_call-invocation-requires-clause-runs : goal.take_call-invocation-requires-clause-runs
take_call-invocation-requires-clause-runs c =
    let m = c.requires.is_vm.memory in
    let slots = m.slot_room in
    let operands = m.operands in
    let e : c.args.vm.now.operands.room ≡ c.args.vm.now.frames.slot_room = omega (arith, slots, operands) in
    runs_within c.args.library.now c.args.vm.now c.args.row.now (at_call c.args.op c.args.number c.args.end) c.requires c.args.vm.now.operands.room e

pub take_call-invocation-requires-clause-methods : goal.take_call-invocation-requires-clause-methods
take_call-invocation-requires-clause-methods c =
    let h = c.requires in
    let r = h.is_vm.runs h.goes_on h.program h.is_program in
    c.methods_law.ensures h.program c.args.vm.now.arena.objects c.args.vm.now.frames r.state r.kept

pub visits_call_on-requires-clause-callee : goal.visits_call_on-requires-clause-callee
visits_call_on-requires-clause-callee c = c.take_call-invocation.ensures.taken.callee

pub visits_call_on-requires-clause-few : goal.visits_call_on-requires-clause-few
visits_call_on-requires-clause-few c = c.take_call-invocation.ensures.taken.few

pub visits_call_on-requires-clause-known : goal.visits_call_on-requires-clause-known
visits_call_on-requires-clause-known c = c.take_call-invocation.ensures.taken.operands

pub visits_call_on-requires-clause-all_told : goal.visits_call_on-requires-clause-all_told
visits_call_on-requires-clause-all_told c = c.requires.is_vm.all_told

pub returns-clause-due : goal.returns-clause-due
returns-clause-due c p of =
    owed.call_due c.args.library.now c.args.vm.now c.args.row.now c.args.op c.args.number c.args.end c.requires c.take_call-invocation.new.operands c.take_call-invocation.result
    c.take_call-invocation.ensures.taken c.args.most c.visits_call_on.result (λ q w is. c.visits_call_on.ensures q (with_modules q.tables w c.args.vm.now.modules) is.means is.shelf_is) p of (new_world 0 0 [])

pub returns-clause-vm : goal.returns-clause-vm
returns-clause-vm c =
    (fetched_holding c.args.library.now c.args.vm.now c.args.row.now (at_call c.args.op c.args.number c.args.end) c.requires c.take_call-invocation.new.operands c.take_call-invocation.ensures.room).is_vm

pub returns-clause-same : goal.returns-clause-same
returns-clause-same c = refl
