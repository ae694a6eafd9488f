use Rattle.snap_loading.proofs.loading.if_paid.Goals as goal

pub returns-then-is_paid-clause-paid : goal.returns-then-is_paid-clause-paid
returns-then-is_paid-clause-paid c = c.is_paid.ensures.paid.0 c.if-is_paid.true
