use Rattle.std.specs.Prelude.{◌-◌}
use Rattle.vm_starting.specs.Kept.{AreFetched}
use Rattle.vm_machine.specs.Machine.{IsVm}
use Rattle.split_rows.proofs.running.go_on.Given as goal

abbrev pub invariant-turns : goal.invariant-turns
invariant-turns g l = IsVm l.library l.vm × AreFetched l.library l.cache

abbrev pub decreases-turns : goal.decreases-turns
decreases-turns g l = l.most - l.parts
