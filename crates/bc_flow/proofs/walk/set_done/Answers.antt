use Rattle.std.proofs.Common.{rules, refl}
use Rattle.bc_flow.proofs.Tables.{done_here, not_here}
use Rattle.bc_flow.proofs.walk.set_done.Goals as goal

pub returns-in-Pending : goal.returns-in-Pending
returns-in-Pending c x w = done_here c.args.states.now.items c.args.p x c.replace-old.result _ c.in-Pending.x (search rules) c.in-Pending.is w

pub returns : goal.returns
returns c x w = absurd (not_here c.args.states.now.items c.args.p c.replace-old.result (search rules) c.in_default.not-Pending c.args.p x w refl)
