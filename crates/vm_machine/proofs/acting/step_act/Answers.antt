use Rattle.std.proofs.Common.{refl, arith}
use Rattle.vm_kept.specs.state_calls.vm_fetching.Instructions as fetched
use Rattle.vm_machine.proofs.Stepped.{carried_out}
use Rattle.vm_machine.proofs.acting.step_act.Goals as goal

pub act-requires-clause-fetched : goal.act-requires-clause-fetched
act-requires-clause-fetched c = c.requires.fetched

pub act-requires-clause-rows : goal.act-requires-clause-rows
act-requires-clause-rows c = c.requires.rows

pub returns-clause-stepped : goal.returns-clause-stepped
returns-clause-stepped c =
    carried_out c.args.library.now c.args.row.now (record { instruction = fetched.acts c.args.action; end = c.args.end }) c.args.vm.now c.requires.fetched c.act.new.vm c.act.ensures c.step_law.ensures 1 0 0 (omega arith) (omega arith) (omega arith)

pub returns-clause-unpaid : goal.returns-clause-unpaid
returns-clause-unpaid c = refl
