use Rattle.std.proofs.Common.{◌≡◌, length}
use Rattle.bc_rows.specs.Made.{AreNamed}
use Rattle.bc_rows.proofs.rows.named_of.Given as goal

abbrev pub invariant-loop-number : goal.invariant-loop-number
invariant-loop-number l = AreNamed l.library l.named.items × (length l.named.items ≡ l.number)
