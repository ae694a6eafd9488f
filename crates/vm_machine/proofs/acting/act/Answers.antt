use Rattle.std.proofs.Common.{ap}
use Rattle.vm_kept.specs.state_calls.vm_fetching.declared.instruction.Action.{Action}
use Rattle.vm_kept.specs.state_calls.vm_fetching.Instructions as fetched
use Rattle.vm_machine.proofs.Fetched.{at_form}
use Rattle.vm_machine.proofs.acting.act.Goals as goal

pub operate_on-requires : goal.operate_on-requires
operate_on-requires c = record { fetched = at_form c.args.library.now c.args.vm.now c.args.row.now (record { instruction = fetched.acts c.args.action; end = c.args.end }) c.requires.fetched (fetched.stays c.in-Stays.step) (ap (λ (a : Action). fetched.acts a) c.in-Stays.is) }

pub returns-in-Stays : goal.returns-in-Stays
returns-in-Stays c = c.operate_on.ensures

pub leave_on-requires-clause-fetched : goal.leave_on-requires-clause-fetched
leave_on-requires-clause-fetched c = at_form c.args.library.now c.args.vm.now c.args.row.now (record { instruction = fetched.acts c.args.action; end = c.args.end }) c.requires.fetched (fetched.leave c.in-Leaves.op) (ap (λ (a : Action). fetched.acts a) c.in-Leaves.is)

pub leave_on-requires-clause-rows : goal.leave_on-requires-clause-rows
leave_on-requires-clause-rows c = c.requires.rows

pub returns-in-Leaves : goal.returns-in-Leaves
returns-in-Leaves c = c.leave_on.ensures

pub finish_on-requires-clause-fetched : goal.finish_on-requires-clause-fetched
finish_on-requires-clause-fetched c = at_form c.args.library.now c.args.vm.now c.args.row.now (record { instruction = fetched.acts c.args.action; end = c.args.end }) c.requires.fetched (fetched.finish) (ap (λ (a : Action). fetched.acts a) c.in-Finishes.is)

pub finish_on-requires-clause-rows : goal.finish_on-requires-clause-rows
finish_on-requires-clause-rows c = c.requires.rows

pub returns-in-Finishes : goal.returns-in-Finishes
returns-in-Finishes c = c.finish_on.ensures

pub make_by-requires-clause-fetched : goal.make_by-requires-clause-fetched
make_by-requires-clause-fetched c = at_form c.args.library.now c.args.vm.now c.args.row.now (record { instruction = fetched.acts c.args.action; end = c.args.end }) c.requires.fetched (fetched.make c.in-Makes.op c.in-Makes.number) (ap (λ (a : Action). fetched.acts a) c.in-Makes.is)

pub make_by-requires-clause-rows : goal.make_by-requires-clause-rows
make_by-requires-clause-rows c = c.requires.rows

pub returns-in-Makes : goal.returns-in-Makes
returns-in-Makes c = c.make_by.ensures

pub import_on-requires-clause-fetched : goal.import_on-requires-clause-fetched
import_on-requires-clause-fetched c = at_form c.args.library.now c.args.vm.now c.args.row.now (record { instruction = fetched.acts c.args.action; end = c.args.end }) c.requires.fetched (fetched.imports c.in-Imports.name) (ap (λ (a : Action). fetched.acts a) c.in-Imports.is)

pub import_on-requires-clause-rows : goal.import_on-requires-clause-rows
import_on-requires-clause-rows c = c.requires.rows

pub returns-in-Imports : goal.returns-in-Imports
returns-in-Imports c = c.import_on.ensures
