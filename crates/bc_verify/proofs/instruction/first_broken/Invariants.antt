use Rattle.bc_verify.specs.Body.{body_of}
use Rattle.bc_verify.proofs.Breaking.{KeepsBelow}
use Rattle.bc_verify.proofs.instruction.first_broken.Given as goal

abbrev pub invariant-loop-position : goal.invariant-loop-position
invariant-loop-position l = KeepsBelow l.module l.children (body_of l.code) l.position
