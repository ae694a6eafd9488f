use Rattle.std.proofs.Common.{◌≡◌, ◌∙◌, ap, rules, refl, set}
use Rattle.bc_flow.specs.declared.walk.State.TheVariants as states
use Rattle.bc_flow.specs.Views.{table_of}
use Rattle.bc_flow.proofs.Tables.{map-set, not_here, same_at}
use Rattle.bc_flow.proofs.passing.take_out.Goals as goal

pub returns-clause-table : goal.returns-clause-table
returns-clause-table c =
    let e : c.replace.new.dest ≡ states.Unseen = search rules in
    ap (λ z. table_of (set c.args.states.now.items c.args.p z)) e ∙ map-set c.args.states.now.items c.args.p states.Unseen

pub returns-clause-shape : goal.returns-clause-shape
returns-clause-shape c x w = same_at c.args.states.now.items c.args.p x c.replace.result c.in-Pending.x (search rules) c.in-Pending.is w

pub unreachable-requires : goal.unreachable-requires
unreachable-requires c = not_here c.args.states.now.items c.args.p c.replace.result (search rules) c.in_default.not-Pending c.args.p c.requires.pending.0 c.requires.pending.1 refl
