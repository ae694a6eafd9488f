use Rattle.std.proofs.Common.{◌≡◌, ◌≤◌, take, drop, length, None}
use Rattle.prim_modules.proofs.Fronts.{outer}
use Rattle.prim_modules.proofs.dots.last_dot.Given as goal

-- no dot stands from here on
abbrev pub invariant-loop-at : goal.invariant-loop-at
invariant-loop-at l = (outer (take l.at l.name) (drop l.at l.name) ≡ None) × (l.at ≤ length l.name)

abbrev pub decreases-loop-at : goal.decreases-loop-at
decreases-loop-at l = l.at
