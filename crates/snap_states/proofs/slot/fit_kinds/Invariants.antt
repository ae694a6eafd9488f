use Rattle.std.proofs.Common.{◌≡◌, drop}
use Rattle.snap_states.specs.Stacks.{stack_as, fit_kinds}
use Rattle.snap_states.proofs.slot.fit_kinds.Given as goal

abbrev pub invariant-loop-i : goal.invariant-loop-i
invariant-loop-i l = fit_kinds (stack_as l.slots) l.kinds ≡ fit_kinds (stack_as (drop l.i l.slots)) (drop l.i l.kinds)
