use Rattle.std.proofs.Common.{◌≡◌, ◌+◌, ◌*◌, length}
use Rattle.std.specs.Vec.Iter.{into_iter_items, into_iter_len}
use Rattle.py_expressions.specs.Targets.{target_of, each}
use Rattle.py_expressions.proofs.Behind.{behind}
use Rattle.py_expressions.proofs.targets.+target.Given as goal

abbrev pub decreases-target_of : goal.decreases-target_of
decreases-target_of l = 3 * l.depth

abbrev pub decreases-unpack : goal.decreases-unpack
decreases-unpack l = 3 * l.depth + 2

abbrev pub decreases-each : goal.decreases-each
decreases-each l = 3 * l.depth + 1

abbrev pub invariant-each-more : goal.invariant-each-more
invariant-each-more l = (each (target_of l.depth) l.fn.members ≡ behind l.found (each (target_of l.depth) (into_iter_items l.member-iterator))) × (into_iter_len l.member-iterator ≡ length (into_iter_items l.member-iterator))
