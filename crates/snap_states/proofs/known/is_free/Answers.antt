use Rattle.std.proofs.Common.{sym, ◌∙◌}
use Rattle.snap_states.proofs.Looping.{not_so}
use Rattle.snap_states.proofs.Standing.{by_nobody, by_somebody}
use Rattle.snap_states.proofs.known.is_free.Goals as goal

pub returns-clause-free : goal.returns-clause-free
returns-clause-free c = λ t. (by_nobody c.args.known.now.snapshot.now c.args.known.now.owners.items c.requires.known.owners c.args.number (sym c.owner_of.ensures ∙ c.is_nobody.ensures.0 t)).free

pub returns-clause-owned : goal.returns-clause-owned
returns-clause-owned c = λ t. by_somebody c.args.known.now.snapshot.now c.args.known.now.owners.items c.requires.known.owners c.args.number c.requires.there (λ e. not_so c.is_nobody.result c.is_nobody.ensures.1 t (c.owner_of.ensures ∙ e))
