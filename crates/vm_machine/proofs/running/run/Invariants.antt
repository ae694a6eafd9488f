use Rattle.std.specs.Prelude.{map}
use Rattle.vm_starting.specs.Kept.{AreFetched}
use Rattle.vm_machine.proofs.Runs.{RanSoFar}
use Rattle.vm_machine.proofs.running.run.Given as goal

abbrev pub invariant-steps : goal.invariant-steps
invariant-steps g l =
    RanSoFar g.S.Sink.told g.S.Sink.count l.library l.fn.vm l.vm (record { out = l.fn.out; ports = map g.P.Port.seen l.fn.ports }) (record { out = l.out; ports = map g.P.Port.seen l.ports }) l.steps l.left × AreFetched l.library l.cache

abbrev pub decreases-steps : goal.decreases-steps
decreases-steps g l = l.left
