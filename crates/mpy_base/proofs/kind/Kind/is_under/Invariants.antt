use Rattle.std.proofs.Common.{◌↔◌}
use Rattle.mpy_base.specs.Kind.{IsUnder}
use Rattle.mpy_base.proofs.KindTree.{depth}
use Rattle.mpy_base.proofs.kind.Kind.is_under.Given as goal

abbrev pub invariant-loop-other : goal.invariant-loop-other
invariant-loop-other l = IsUnder l.fn.self l.other ↔ IsUnder l.kind l.other

abbrev pub decreases-loop-other : goal.decreases-loop-other
decreases-loop-other l = depth l.kind
