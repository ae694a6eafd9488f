use Rattle.snap_states.specs.Knowing.{AreOwnersBelow}
use Rattle.snap_states.proofs.owners.owners_of.Given as goal

abbrev pub invariant-loop-object : goal.invariant-loop-object
invariant-loop-object l = AreOwnersBelow l.objects l.object-index l.owners.items
