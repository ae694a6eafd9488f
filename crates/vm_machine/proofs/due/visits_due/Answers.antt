use Rattle.vm_machine.proofs.due.visits_due.Goals as goal

pub fetch_at-requires-clause-vm : goal.fetch_at-requires-clause-vm
fetch_at-requires-clause-vm c = c.requires.vm

pub fetch_at-requires-clause-rows : goal.fetch_at-requires-clause-rows
fetch_at-requires-clause-rows c = c.requires.rows

pub fetch_at-requires-clause-goes_on : goal.fetch_at-requires-clause-goes_on
fetch_at-requires-clause-goes_on c = c.requires.goes_on

pub due_of-requires : goal.due_of-requires
due_of-requires c = c.fetch_at.ensures

pub returns-clause-due : goal.returns-clause-due
returns-clause-due c = c.due_of.ensures.due

pub returns-clause-vm : goal.returns-clause-vm
returns-clause-vm c = c.due_of.ensures.vm

pub returns-clause-same : goal.returns-clause-same
returns-clause-same c = c.due_of.ensures.same
