use Rattle.std.proofs.Common.{[]}
use Rattle.std.proofs.lemmas.Bool.{eqb-true, eq-eqb}
use Rattle.bc_machine.specs.py_effects.Ends.{new_world}
use Rattle.snap_loading.proofs.Settled as settled
use Rattle.snap_loading.proofs.paying.is_paid.Goals as goal

pub visits_due-due-requires-clause-vm : goal.visits_due-due-requires-clause-vm
visits_due-due-requires-clause-vm c = c.requires.vm

pub visits_due-due-requires-clause-rows : goal.visits_due-due-requires-clause-rows
visits_due-due-requires-clause-rows c = c.requires.rows

pub visits_due-due-requires-clause-goes_on : goal.visits_due-due-requires-clause-goes_on
visits_due-due-requires-clause-goes_on c = c.requires.goes_on

pub returns-clause-paid : goal.returns-clause-paid
returns-clause-paid c =
    let vm = c.args.vm.now in
    let due = c.visits_due-due.result in
    let p = c.program_law.ensures.exists c.args.library.now c.requires.vm.runnable in (
      (λ test q of w. settled.is_paid q vm c.requires.goes_on due (c.visits_due-due.ensures.due q of) w (eqb-true due vm.paid test)),
      (λ all. eq-eqb due vm.paid (settled.all_due p.0 vm c.requires.goes_on due (c.visits_due-due.ensures.due p.0 p.1) (new_world 0 0 []) (all p.0 p.1 (new_world 0 0 [])))),
    )

pub returns-clause-vm : goal.returns-clause-vm
returns-clause-vm c = c.visits_due-due.ensures.vm

pub returns-clause-same : goal.returns-clause-same
returns-clause-same c = c.visits_due-due.ensures.same
