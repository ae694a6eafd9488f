use Rattle.std.proofs.Common.{sym, ◌∙◌}
use Rattle.snap_states.proofs.Standing.{by_nobody, free_is}
use Rattle.snap_states.proofs.known.is_object.Goals as goal

pub returns : goal.returns
returns c = (
  λ t. by_nobody c.args.known.now.snapshot.now c.args.known.now.owners.items c.requires.owners c.args.number (sym c.owner_of.ensures ∙ c.is_nobody.ensures.0 t),
  λ o. c.is_nobody.ensures.1 (c.owner_of.ensures ∙ free_is c.args.known.now.snapshot.now c.args.known.now.owners.items c.requires.owners c.args.number o),
)
