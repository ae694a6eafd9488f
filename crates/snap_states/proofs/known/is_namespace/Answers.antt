use Rattle.std.proofs.Common.{sym, ◌∙◌}
use Rattle.std.proofs.lemmas.Bool.{false≢true}
use Rattle.snap_states.proofs.Looping.{not_so}
use Rattle.snap_states.proofs.Standing.{by_one, by_other}
use Rattle.snap_states.proofs.known.is_namespace.Goals as goal

pub returns-then-is_one : goal.returns-then-is_one
returns-then-is_one c = by_one c.args.known.now.snapshot.now c.args.known.now.owners.items c.requires.owners c.args.number (sym c.owner_of.ensures ∙ c.is_one.ensures.0 c.if-is_one.true) c.is_at.result c.is_at.ensures

pub returns-else-is_one : goal.returns-else-is_one
returns-else-is_one c = (λ t. absurd (false≢true (sym c.if-is_one.false ∙ t)), λ n. absurd (by_other c.args.known.now.snapshot.now c.args.known.now.owners.items c.requires.owners c.args.number (λ e. not_so c.is_one.result c.is_one.ensures.1 c.if-is_one.false (c.owner_of.ensures ∙ e)) n))
