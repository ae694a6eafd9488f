use Rattle.vm_kept.specs.state_calls.vm_fetching.Instructions as fetched
use Rattle.vm_machine.proofs.Fetched.{runs_over}
use Rattle.vm_machine.proofs.Owed.{instruction_due}
use Rattle.vm_machine.proofs.due.binary_due.Goals as goal

pub visits_binary_op-requires : goal.visits_binary_op-requires
visits_binary_op-requires c = record { runs = runs_over c.args.library.now c.args.vm.now c.args.row.now (record { instruction = fetched.binary c.args.number; end = c.args.end }) c.requires }

pub returns : goal.returns
returns c = instruction_due c.args.library.now c.args.vm.now c.args.row.now (record { instruction = fetched.binary c.args.number; end = c.args.end }) c.requires tt c.args.most c.visits_binary_op.result c.visits_binary_op.ensures.visits
