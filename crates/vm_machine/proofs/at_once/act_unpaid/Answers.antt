use Rattle.vm_kept.specs.state_calls.vm_fetching.Instructions as fetched
use Rattle.vm_machine.proofs.AtOnce.{left}
use Rattle.vm_machine.proofs.Fetched.{at_form}
use Rattle.vm_machine.proofs.at_once.act_unpaid.Goals as goal

pub step_act-requires-clause-fetched : goal.step_act-requires-clause-fetched
step_act-requires-clause-fetched c =
    at_form c.args.library.now c.args.vm.now c.row_of-row.result.now c.args.fetched c.row_of-row.ensures (fetched.acts c.in-Acts.action) c.in-Acts.is

pub returns-in-Binary-clause-stepped : goal.returns-in-Binary-clause-stepped
returns-in-Binary-clause-stepped c =
    let h = c.requires.fetched in left c.args.library.now h.0 c.args.fetched c.args.vm.now h.1

pub returns-in-Calls-clause-stepped : goal.returns-in-Calls-clause-stepped
returns-in-Calls-clause-stepped c =
    let h = c.requires.fetched in left c.args.library.now h.0 c.args.fetched c.args.vm.now h.1
