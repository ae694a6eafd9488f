use Rattle.std.proofs.Common.{◌≡◌, drop}
use Rattle.bc_certificates.specs.Checking.{ordered}
use Rattle.bc_certificates.proofs.checking.are_ordered.Given as goal

abbrev pub invariant-loop-entry : goal.invariant-loop-entry
invariant-loop-entry l = ordered l.fn.slots l.fn.p l.entries ≡ ordered l.height l.handler (drop l.entry-index l.entries)
