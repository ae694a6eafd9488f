use Rattle.std.specs.Prelude.{◌≡◌, ◌-◌, None}
use Rattle.vm_machine.proofs.AtOnce.{AtOnceSoFar}
use Rattle.vm_machine.proofs.at_once.run_in.Given as goal

abbrev pub invariant-steps : goal.invariant-steps
invariant-steps l = AtOnceSoFar l.library l.fn.vm l.vm l.taken l.most × (l.vm.end ≡ None)

abbrev pub decreases-steps : goal.decreases-steps
decreases-steps l = l.most - l.taken
