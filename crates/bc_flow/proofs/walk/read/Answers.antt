use Rattle.std.proofs.Common.{◌∙◌, refl}
use Rattle.bc_flow.proofs.Tables.{not_here, same_at}
use Rattle.bc_flow.proofs.Walks.{on_ok_map}
use Rattle.bc_flow.proofs.walk.read.Goals as goal

pub unreachable-requires : goal.unreachable-requires
unreachable-requires c = not_here c.args.states.now c.args.p c.index-states-p.result c.index-states-p.is c.in_default.not-Pending c.args.p c.requires.pending.0 c.requires.pending.1 refl

pub returns : goal.returns
returns c y w = on_ok_map c.copy.result _ _ (λ e. e ∙ same_at c.args.states.now c.args.p y c.index-states-p.result c.in-Pending.y c.index-states-p.is c.in-Pending.is w) c.copy.ensures
