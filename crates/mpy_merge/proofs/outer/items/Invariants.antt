use Rattle.std.proofs.Common.{◌≡◌, ◌-◌, ◌++◌}
use Rattle.mpy_merge.specs.Merged.{calls}
use Rattle.mpy_merge.proofs.outer.items.Given as goal

abbrev pub invariant-loop-place : goal.invariant-loop-place
invariant-loop-place l = l.items.items ++ calls l.place (l.modules - l.place) ≡ calls 0 l.modules
