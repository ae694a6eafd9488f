use Rattle.std.proofs.Common.{◌≡◌, false, replicate}
use Rattle.bc_refusals.proofs.order.clear_flags.Given as goal

abbrev pub invariant-loop-p : goal.invariant-loop-p
invariant-loop-p l = l.flags.items ≡ replicate l._p false
