use Rattle.std.proofs.Common.{refl, arith}
use Rattle.vm_kept.specs.state_calls.vm_fetching.Instructions as fetched
use Rattle.vm_machine.proofs.Fetched.{at_form}
use Rattle.vm_machine.proofs.Owed.{instruction_due}
use Rattle.vm_machine.proofs.due.due_of.Goals as goal

pub binary_due-requires : goal.binary_due-requires
binary_due-requires c = at_form c.args.library.now c.args.vm.now c.args.row.now c.args.fetched c.requires (fetched.binary c.in-Binary.number) c.in-Binary.is

pub call_due-requires : goal.call_due-requires
call_due-requires c = at_form c.args.library.now c.args.vm.now c.args.row.now c.args.fetched c.requires (fetched.call c.in-Calls.op c.in-Calls.number) c.in-Calls.is

pub returns-in-Acts-clause-due : goal.returns-in-Acts-clause-due
returns-in-Acts-clause-due c =
    let i = fetched.acts c.in-Acts._action in
    instruction_due c.args.library.now c.args.vm.now c.args.row.now (record { instruction = i; end = c.args.fetched.end }) (at_form c.args.library.now c.args.vm.now c.args.row.now c.args.fetched c.requires i c.in-Acts.is) tt c.args.most 0 (omega arith)

pub returns-in-Acts-clause-vm : goal.returns-in-Acts-clause-vm
returns-in-Acts-clause-vm c = c.requires.is_vm

pub returns-in-Acts-clause-same : goal.returns-in-Acts-clause-same
returns-in-Acts-clause-same c = refl

pub returns-in-Binary-clause-due : goal.returns-in-Binary-clause-due
returns-in-Binary-clause-due c = c.binary_due.ensures

pub returns-in-Binary-clause-vm : goal.returns-in-Binary-clause-vm
returns-in-Binary-clause-vm c = c.requires.is_vm

pub returns-in-Binary-clause-same : goal.returns-in-Binary-clause-same
returns-in-Binary-clause-same c = refl

pub returns-in-Calls-clause-due : goal.returns-in-Calls-clause-due
returns-in-Calls-clause-due c = c.call_due.ensures.due

pub returns-in-Calls-clause-vm : goal.returns-in-Calls-clause-vm
returns-in-Calls-clause-vm c = c.call_due.ensures.vm

pub returns-in-Calls-clause-same : goal.returns-in-Calls-clause-same
returns-in-Calls-clause-same c = c.call_due.ensures.same
