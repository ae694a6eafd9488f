use Rattle.std.proofs.Common.{◌≡◌, ◌+◌, ◌≤◌, length}
use Rattle.mpy_words.specs.Number as spec
use Rattle.mpy_words.proofs.number.number.Given as goal

abbrev pub invariant-more : goal.invariant-more
invariant-more l = (spec.value_of l.most 0 l.word ≡ spec.value_of l.most l.sum l.rest) × (l.sum ≤ l.most + 1)

abbrev pub decreases-more : goal.decreases-more
decreases-more l = length l.rest
