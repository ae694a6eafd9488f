use Rattle.vm_machine.proofs.Titling.{Front}
use Rattle.vm_machine.proofs.names.module_names.Given as goal

abbrev pub invariant-loop-number : goal.invariant-loop-number
invariant-loop-number l = Front l.library l.number l.names.items
