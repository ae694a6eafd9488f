use Rattle.vm_machine.proofs.stepping.step.Goals as goal

pub fetch_kept-fetched-requires-clause-vm : goal.fetch_kept-fetched-requires-clause-vm
fetch_kept-fetched-requires-clause-vm g c = c.requires.vm

pub fetch_kept-fetched-requires-clause-rows : goal.fetch_kept-fetched-requires-clause-rows
fetch_kept-fetched-requires-clause-rows g c = c.requires.rows

pub fetch_kept-fetched-requires-clause-goes_on : goal.fetch_kept-fetched-requires-clause-goes_on
fetch_kept-fetched-requires-clause-goes_on g c = c.requires.goes_on

pub fetch_kept-fetched-requires-clause-kept : goal.fetch_kept-fetched-requires-clause-kept
fetch_kept-fetched-requires-clause-kept g c = c.requires.kept

pub row_of-row-requires-clause-fetched : goal.row_of-row-requires-clause-fetched
row_of-row-requires-clause-fetched g c = c.fetch_kept-fetched.ensures.fetched

pub row_of-row-requires-clause-rows : goal.row_of-row-requires-clause-rows
row_of-row-requires-clause-rows g c = c.requires.rows

pub step_on-requires-clause-fetched : goal.step_on-requires-clause-fetched
step_on-requires-clause-fetched g c = c.row_of-row.ensures

pub step_on-requires-clause-rows : goal.step_on-requires-clause-rows
step_on-requires-clause-rows g c = c.requires.rows

pub step_on-requires-clause-some : goal.step_on-requires-clause-some
step_on-requires-clause-some g c = c.requires.some

pub step_on-requires-clause-countable : goal.step_on-requires-clause-countable
step_on-requires-clause-countable g c = c.requires.countable

pub returns-clause-advances : goal.returns-clause-advances
returns-clause-advances g c = c.step_on.ensures

pub returns-clause-kept : goal.returns-clause-kept
returns-clause-kept g c = c.fetch_kept-fetched.ensures.kept
