use Rattle.std.specs.Prelude.{◌-◌}
use Rattle.vm_starting.specs.Kept.{AreFetched}
use Rattle.vm_machine.proofs.AtOnce.{AtOnceSoFar}
use Rattle.vm_machine.proofs.at_once.run_at_once.Given as goal

abbrev pub invariant-steps : goal.invariant-steps
invariant-steps l = AtOnceSoFar l.library l.fn.vm l.vm l.taken l.most × AreFetched l.library l.cache

abbrev pub decreases-steps : goal.decreases-steps
decreases-steps l = l.most - l.taken
