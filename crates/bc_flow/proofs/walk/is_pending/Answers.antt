use Rattle.std.proofs.Common.{refl}
use Rattle.bc_shapes.specs.Views.{at_of}
use Rattle.bc_flow.proofs.Tables.{pending_here, not_here, past_pending}
use Rattle.bc_flow.proofs.Fronts.{on_false}
use Rattle.bc_flow.proofs.walk.is_pending.Goals as goal

pub returns-in-Pending-clause-yes : goal.returns-in-Pending-clause-yes
returns-in-Pending-clause-yes c = (at_of c.in-Pending.field-0, pending_here c.args.states.now c.args.n c.index-states-n.result c.in-Pending.field-0 c.if-n-states.true c.index-states-n.is c.in-Pending.is)

pub returns-in_default : goal.returns-in_default
returns-in_default c = record { yes = tt; no = λ y w. not_here c.args.states.now c.args.n c.index-states-n.result c.index-states-n.is c.in_default.not-Pending c.args.n y w refl }

pub returns-else-n-states-clause-no : goal.returns-else-n-states-clause-no
returns-else-n-states-clause-no c = on_false _ _ (past_pending c.args.states.now c.args.n c.if-n-states.false)
