use Rattle.std.proofs.Common.{◌∙◌, ap, sym}
use Rattle.bc_flow.specs.Views.{has_if}
use Rattle.bc_flow.proofs.Holes.{passed_bad, passed_good}
use Rattle.bc_flow.proofs.Queues.{on_true}
use Rattle.bc_flow.proofs.passing.leave.Goals as goal

pub returns-then-branch-clause-table : goal.returns-then-branch-clause-table
returns-then-branch-clause-table c = passed_good _ c.put_leaving.new.states.items _ c.if-branch.true c.in_ok-put_leaving.ensures.table

pub returns-else-branch-clause-table : goal.returns-else-branch-clause-table
returns-else-branch-clause-table c = passed_bad _ c.put_leaving.new.states.items _ c.if-branch.false c.in_ok-put_leaving.ensures.table

pub returns-then-branch-clause-queued : goal.returns-then-branch-clause-queued
returns-then-branch-clause-queued c q = on_true _ _ c.if-branch.true (c.in_ok-put_leaving.ensures.queued q)

pub returns-then-branch-clause-since : goal.returns-then-branch-clause-since
returns-then-branch-clause-since c old h = on_true _ _ c.if-branch.true (c.in_ok-put_leaving.ensures.since old h)
