use Rattle.image_open.proofs.Behind.{Copied}
use Rattle.image_open.proofs.copies.copies.Given as goal

abbrev pub invariant-loop-number : goal.invariant-loop-number
invariant-loop-number l = Copied l.lib.modules l.number l.entries.items
