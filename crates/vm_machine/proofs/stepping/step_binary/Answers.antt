use Rattle.std.proofs.Common.{arith}
use Rattle.vm_kept.specs.state_calls.vm_fetching.Instructions as fetched
use Rattle.vm_machine.proofs.Fetched.{runs_over}
use Rattle.vm_machine.proofs.Stepped.{paid_only, carried_out}
use Rattle.vm_machine.proofs.stepping.step_binary.Goals as goal

pub visits_binary_op-due-requires : goal.visits_binary_op-due-requires
visits_binary_op-due-requires c = record { runs = runs_over c.args.library.now c.args.vm.now c.args.row.now (record { instruction = fetched.binary c.args.number; end = c.args.end }) c.requires.fetched }

pub steps_before-requires-clause-some : goal.steps_before-requires-clause-some
steps_before-requires-clause-some c = c.requires.some

pub steps_before-requires-clause-due : goal.steps_before-requires-clause-due
steps_before-requires-clause-due c = omega (arith, c.visits_binary_op-due.ensures.visits)

pub operate_binary_on-requires : goal.operate_binary_on-requires
operate_binary_on-requires c = record { fetched = c.requires.fetched }

pub returns-in-None-clause-stepped : goal.returns-in-None-clause-stepped
returns-in-None-clause-stepped c = paid_only c.args.library.now c.args.row.now (record { instruction = fetched.binary c.args.number; end = c.args.end }) c.args.vm.now c.requires.fetched c.args.most c.visits_binary_op-due.result c.visits_binary_op-due.ensures.visits c.in-None.ensures.none

pub returns-in-None-clause-some : goal.returns-in-None-clause-some
returns-in-None-clause-some c = c.requires.some

pub returns-in-None-clause-few : goal.returns-in-None-clause-few
returns-in-None-clause-few c = omega arith

pub returns-in-Some-clause-stepped : goal.returns-in-Some-clause-stepped
returns-in-Some-clause-stepped c =
    carried_out c.args.library.now c.args.row.now (record { instruction = fetched.binary c.args.number; end = c.args.end }) c.args.vm.now c.requires.fetched c.operate_binary_on.new.vm c.operate_binary_on.ensures c.step_law.ensures c.args.most c.visits_binary_op-due.result c.in-Some.before c.visits_binary_op-due.ensures.visits c.in-Some.ensures.before.0 c.in-Some.ensures.before.1

pub returns-in-Some-clause-some : goal.returns-in-Some-clause-some
returns-in-Some-clause-some c = omega arith

pub returns-in-Some-clause-few : goal.returns-in-Some-clause-few
returns-in-Some-clause-few c = omega (arith, c.in-Some.ensures.before.1)

pub overflow_add-bound : goal.overflow_add-bound
overflow_add-bound c = omega (arith, c.requires.countable)

pub overflow_add-taken : goal.overflow_add-taken
overflow_add-taken c = omega (arith, c.in-Some.ensures.before.1, c.ranges.most)
